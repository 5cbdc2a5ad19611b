-- A transmission of one page alone has at least so many codewords.
use Rattle.pocsag_laws.proofs.Prelude.{◌≡◌, ℕ, zero, suc, ◌+◌, ◌*◌, ◌/◌, ◌%◌, ◌<◌, ◌≤◌, ◌==◌, inl, inr, false, List, [], ◌∷◌, ◌++◌, length, map, length-append, ap, subst, arith, nat_tests, Contains, if◌then◌else◌, slice_index_or, cases_Bool, length-map, All-head, Kind, Address, Idle, Message, End, kind_of, Page, EndsAs, EndsIdle, EndsWhole, IsLegalList, Reads, at_end, frame_at, page_length, past_idle, past_page}
use Rattle.pocsag_words.specs.declared.ending.End.TheVariants as ends
use Rattle.pocsag_plan.specs.Plans.{NoneHasFewer}
use Rattle.pocsag_centre.specs.Oversized.{fits_alone, idles_behind, least_alone}

-- a page stands at an index of its frame, behind which these codewords have room for it
record IsRoomFor (end : End) (p : Page) (from length_behind : ℕ) : Type 0 where
  at : ℕ
  low : from ≤ at
  frame : frame_at at ≡ p.address % 8
  room : at + page_length p + idles_behind end p ≤ from + length_behind

ends_later : (end : End) (w v : Kind) (ws : List Kind) → EndsAs end (w ∷ v ∷ ws) → EndsAs end (v ∷ ws)
ends_later ends.Open w v ws h = h
ends_later ends.Closed w v ws h = h
ends_later ends.Idle w v ws h = h

never_whole : (item : ℕ) (items : List ℕ) → EndsWhole (Message item ∷ (map Message items ++ [])) → ⊥
never_whole item [] h = h
never_whole item (next ∷ items) h = never_whole next items h

never_idle : (item : ℕ) (items : List ℕ) → EndsIdle (Message item ∷ (map Message items ++ [])) → ⊥
never_idle item [] h = cc
never_idle item (next ∷ items) h = never_idle next items h

idle_few : (n m : ℕ) → (if n == 0 then 0 else 1) ≤ m + 1
idle_few n m = elim (cases_Bool (n == 0)) [
  | inl e ↦ rw e (omega arith)
  | inr k ↦ rw k (omega arith)
]

-- where nothing follows a page it ends as was asked for without an idle
behind : (end : End) (high function address : ℕ) (items : List ℕ) (rest : List Kind) →
    EndsAs end (Address high function ∷ (map Message items ++ rest)) →
    idles_behind end (record { address = address; function = function; payload = items }) ≤ length rest
behind ends.Open high function address items rest h = omega arith
behind ends.Closed high function address [] rest h = omega arith
behind ends.Closed high function address (item ∷ items) [] h = absurd (never_whole item items h)
behind ends.Closed high function address (item ∷ items) (r ∷ rest) h =
    let few : idles_behind ends.Closed (record { address = address; function = function; payload = item ∷ items }) ≤ length rest + 1 =
    idle_few (length (item ∷ items)) (length rest) in
    omega (arith, few)
behind ends.Idle high function address [] [] h = absurd (cc)
behind ends.Idle high function address (item ∷ items) [] h = absurd (never_idle item items h)
behind ends.Idle high function address items (r ∷ rest) h = omega arith

lone : (end : End) {ws : List Kind} {i : ℕ} {ps : List Page} (q : Page) → Reads ws i ps → ps ≡ q ∷ [] → EndsAs end ws → IsRoomFor end q i (length ws)
lone end q at_end e h = absurd (cc e)
lone end q (past_idle {ws = []} at_end) e h = absurd (cc e)
lone end {i = i} q (past_idle {ws = v ∷ ws} r) e h =
    let later = lone end q r e (ends_later end Idle v ws h) in
    record { at = later.at; low = omega (arith, later.low); frame = later.frame; room = omega (arith, later.room) }
lone end {i = i} q (past_page {high = high} {function = function} {ws = ws} {ps = ps} items rest words b r) e h =
    let p : Page = record { address = 8 * high + frame_at i; function = function; payload = items } in
    let all : length ws ≡ length items + length rest =
    omega (arith, ap length words, length-append (map Message items) rest, length-map items Message) in
    let ended = behind end high function (8 * high + frame_at i) items rest (subst (λ (v : List Kind). EndsAs end (Address high function ∷ v)) words h) in
    let room : IsRoomFor end p i (length (Address high function ∷ ws)) =
    record { at = i; low = omega arith; frame = omega arith; room = omega (arith, all, ended) } in
    let same : p ≡ q = cc e in
    subst (λ (v : Page). IsRoomFor end v i (length (Address high function ∷ ws))) same room

-- a list of one page that has this one is it
here : (p q : Page) (k : ℕ) → k < 1 → slice_index_or (p ∷ []) k q ≡ q → p ≡ q
here p q zero low is = is
here p q (suc k) low is = absurd (omega arith)

alone_list : (ps : List Page) (q : Page) → length ps ≡ 1 → Contains ps q → ps ≡ q ∷ []
alone_list [] q h c = absurd (omega arith)
alone_list (p ∷ []) q h c = ap (λ (v : Page). v ∷ []) (here p q c.0 c.1 c.2)
alone_list (p ∷ r ∷ ps) q h c = absurd (omega arith)

alone_needs : (end : End) (q : Page) (T : List ℕ) (n : ℕ) → IsLegalList end T n (q ∷ []) → least_alone end q ≤ 16 * n
alone_needs end q T n legal =
    let l = legal.1.0 in
    let room = lone end q l.reads (alone_list l.ps q l.as_many (All-head (Contains l.ps) q [] l.each)) legal.1.1 in
    let frame : room.at % 16 / 2 ≡ q.address % 8 = room.frame in
    let whole : length (map kind_of T) ≡ 16 * n = l.whole.1 in
    omega (arith, frame, room.room, whole)

pub oversized_needs : (end : End) (batches : ℕ) (p : Page) → fits_alone end batches p ≡ false → NoneHasFewer end (p ∷ []) (batches + 1)
oversized_needs end batches p h = λ T n legal.
    let least = alone_needs end p T n legal in
    let above : 16 * batches < least_alone end p = grind (arith, nat_tests) in
    omega (arith, least, above)
