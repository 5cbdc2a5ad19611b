-- A batch that changes nothing: no page is open, and its frame of the address calls nobody.
use Rattle.pocsag_pager.proofs.Prelude.{◌≡◌, ℕ, ◌+◌, ◌-◌, ◌*◌, ◌/◌, ◌%◌, ◌^◌, ◌<◌, ◌≤◌, All, Bool, true, false, nat_eq, drop, take, List, [], ◌∷◌, ◌++◌, length, refl, sym, ap, subst, ◌∙◌, inl, inr, arith, append_assoc, Option, None, from_be_bytes, w32, All-cons, All-head, All-nil, All-tail, Kind, Page, words_of, HaveEnded, IsHeardAs, next_open, length-append, not, eq-eqb, false≢true, append-nil, drop-drop, length-drop, length-take, All-drop, All-take, IsOnlyNear, kind_of, words_long, State, Listening}
use Rattle.std.specs.Bool.{OnFalse, OnTrue}
use Rattle.std.proofs.Common.{Some}
use Rattle.pocsag_pager.proofs.Hearings.{IsOpen, Known, pass_all, turn_ended, turn_open}
use Rattle.pocsag_pager.proofs.Mended.{AreRepaired}
use Rattle.pocsag_pager.proofs.Places.{ending_none, quiet_kind}
use Rattle.pocsag_pager.proofs.WholeWords.{three_parts}

on_false : {P : Type 0} (b : Bool) → (b ≡ false → P) → OnFalse b P
on_false true f = tt
on_false false f = f refl

pub on_not : {P Q : Type 0} (b : Bool) → OnFalse b Q → (Q → P) → OnTrue (not b) P
on_not true h f = tt
on_not false h f = f h

-- a word that says, once it is mended, nothing that opens a page of the address
abbrev pub CallsNobody : ℕ → ℕ → Type 0
CallsNobody a w = (heard : Option Kind) × IsHeardAs w heard × ((slot : ℕ) → next_open a slot None heard ≡ None)

pub other_high : (a w mended raw : ℕ) → IsOnlyNear w mended → raw ≡ mended → OnFalse (nat_eq (raw / 8192) (a / 8)) (CallsNobody a w)
other_high a w mended raw near same =
    on_false (nat_eq (raw / 8192) (a / 8))
    (λ no. (
      Some (kind_of mended),
      record { mended = Some mended; is_mended = near; is = refl },
      λ slot. quiet_kind a slot mended (λ e. false≢true (sym no ∙ eq-eqb _ _ (ap (λ (x : ℕ). x / 8192) same ∙ e))),
    ))

words_fit : (xs : List ℕ) → All (λ b. b < 256) xs → All (λ w. w < 2 ^ 32) (words_of xs)
words_fit [] h = All-nil _
words_fit (a ∷ []) h = All-nil _
words_fit (a ∷ b ∷ []) h = All-nil _
words_fit (a ∷ b ∷ c ∷ []) h = All-nil _
words_fit (a ∷ b ∷ c ∷ d ∷ xs) h =
    let P : ℕ → Type 0 = λ x. x < 256 in
    let h1 = All-tail P a (b ∷ c ∷ d ∷ xs) h in
    let h2 = All-tail P b (c ∷ d ∷ xs) h1 in
    let h3 = All-tail P c (d ∷ xs) h2 in
    let a' : a < 256 = All-head P a (b ∷ c ∷ d ∷ xs) h in
    let b' : b < 256 = All-head P b (c ∷ d ∷ xs) h1 in
    let c' : c < 256 = All-head P c (d ∷ xs) h2 in
    let d' : d < 256 = All-head P d xs h3 in
    All-cons (λ w. w < 2 ^ 32) (from_be_bytes w32 (a ∷ b ∷ c ∷ d ∷ [])) (words_of xs) (omega arith)
    (words_fit xs (All-tail P d xs h3))

-- the two words of a frame
frame_words : (rest : List ℕ) → 8 ≤ length rest
    → words_of (take 8 rest) ≡ from_be_bytes w32 (take 4 rest) ∷ from_be_bytes w32 (take 4 (drop 4 rest)) ∷ []
frame_words [] h = absurd (omega arith)
frame_words (a ∷ []) h = absurd (omega arith)
frame_words (a ∷ b ∷ []) h = absurd (omega arith)
frame_words (a ∷ b ∷ c ∷ []) h = absurd (omega arith)
frame_words (a ∷ b ∷ c ∷ d ∷ []) h = absurd (omega arith)
frame_words (a ∷ b ∷ c ∷ d ∷ e ∷ []) h = absurd (omega arith)
frame_words (a ∷ b ∷ c ∷ d ∷ e ∷ f ∷ []) h = absurd (omega arith)
frame_words (a ∷ b ∷ c ∷ d ∷ e ∷ f ∷ g ∷ []) h = absurd (omega arith)
frame_words (a ∷ b ∷ c ∷ d ∷ e ∷ f ∷ g ∷ i ∷ rest) h = refl

-- one such word more
quiet_more : (a p w : ℕ) (words : List ℕ) (s : State) (ps : List Page) → p ≡ length words % 17 → 0 < p → s ≡ Listening None
    → CallsNobody a w → Known words a s ps → Known (words ++ w ∷ []) a s ps
quiet_more a p w words s ps place inside holds nobody known = record {
  open_page =
      subst (IsOpen (words ++ w ∷ []) a) (sym holds)
      (turn_open a p w words s None nobody.0 place inside holds nobody.1 known.open_page None (sym (nobody.2 (p - 1))));
  ended =
      subst (HaveEnded (words ++ w ∷ []) a) (append-nil ps)
      (turn_ended a p w words s None nobody.0 place inside holds nobody.1 known.open_page ps None (sym (ending_none nobody.0)) known.ended);
}

pub deaf_all : AreRepaired → (a : ℕ) (s : State) (words bytes : List ℕ) (ps : List Page) → 0 ≡ length words % 17 → s ≡ Listening None
    → length bytes ≡ 68 → All (λ b. b < 256) bytes
    → CallsNobody a (from_be_bytes w32 (take 4 (drop (4 + 8 * (a % 8)) bytes)))
    → CallsNobody a (from_be_bytes w32 (take 4 (drop (4 + 8 * (a % 8) + 4) bytes)))
    → Known words a s ps → Known (words ++ words_of bytes) a s ps
deaf_all law a s words bytes ps first holds long small nobody nor known =
    let at : ℕ = 4 + 8 * (a % 8) in
    let before : List ℕ = words_of (take at bytes) in
    let rest : List ℕ = drop at bytes in
    let behind : List ℕ = words_of (drop 8 rest) in
    let one : ℕ = from_be_bytes w32 (take 4 rest) in
    let other : ℕ = from_be_bytes w32 (take 4 (drop 4 rest)) in
    let rest_long : length rest ≡ 68 - at = length-drop at bytes ∙ ap (λ (n : ℕ). n - at) long in
    let before_long : length before ≡ 1 + 2 * (a % 8) = let w = words_long (take at bytes) in let t = length-take at bytes in omega arith in
    let behind_long : length behind ≡ 14 - 2 * (a % 8) = let w = words_long (drop 8 rest) in let d = length-drop 8 rest in omega arith in
    let parts : (((words ++ before) ++ one ∷ []) ++ other ∷ []) ++ behind ≡ words ++ words_of bytes =
    ap (λ (l : List ℕ). l ++ behind) (append_assoc (words ++ before) (one ∷ []) (other ∷ []))
    ∙ ap (λ (l : List ℕ). ((words ++ before) ++ l) ++ behind) (sym (frame_words rest (omega arith)))
    ∙ three_parts (a % 8) words bytes (take at bytes) rest (take 8 rest) (drop 8 rest) (omega arith) long refl refl refl refl in
    let l1 = length-append words before in
    let l2 = length-append (words ++ before) (one ∷ []) in
    let l3 = length-append ((words ++ before) ++ one ∷ []) (other ∷ []) in
    let fits1 = words_fit (take at bytes) (All-take (λ x. x < 256) at bytes small) in
    let fits2 = words_fit (drop 8 rest) (All-drop (λ x. x < 256) 8 rest (All-drop (λ x. x < 256) at bytes small)) in
    let k1 = pass_all law a 0 s words before ps fits1 (omega arith) holds (inl (omega arith)) known in
    let k2 = quiet_more a (1 + 2 * (a % 8)) one (words ++ before) s ps (omega arith) (omega arith) holds nobody k1 in
    let second : CallsNobody a other = subst (λ (l : List ℕ). CallsNobody a (from_be_bytes w32 (take 4 l))) (sym (drop-drop 4 at bytes)) nor in
    let k3 = quiet_more a (2 + 2 * (a % 8)) other ((words ++ before) ++ one ∷ []) s ps (omega arith) (omega arith) holds second k2 in
    subst (λ (ws : List ℕ). Known ws a s ps) parts
    (pass_all law a (3 + 2 * (a % 8)) s (((words ++ before) ++ one ∷ []) ++ other ∷ []) behind ps fits2 (omega arith) holds
    (inr (omega arith, omega arith)) k3)
