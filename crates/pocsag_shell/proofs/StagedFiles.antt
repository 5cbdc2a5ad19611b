-- The names of the files beside a place, and the numbers in them.
use Rattle.pocsag_shell.proofs.Prelude.{◌≡◌, ◌≢◌, ◌↔◌, ℕ, zero, suc, ◌+◌, ◌^◌, ◌<◌, ◌≤◌, List, [], ◌∷◌, ◌++◌, length, get_or, take, drop, true, false, Bool, Bor, refl, sym, ap, subst, ◌∙◌, arith, length-append, IfNone, nat_eq, Some, codes, slice_get, result_ok, drop-append_seam, get_or-append_seam, append_assoc, append_cancel_right, take-append-drop}
use Rattle.std.specs.Prelude.{Option, None, Result, Ok, Err}
use Rattle.std.specs.Fmt.{decimal}
use Rattle.std.specs.Str.Parse.{AllDigits, ParsesUnsigned, digits_value}
use Rattle.std.specs.Char.{digit_value}
use Rattle.std.specs.Cmp.Lexicographic.{other_text, pointwise, same_text}
use Rattle.std.specs.Option.{MatchOption}
use Rattle.std.proofs.lemmas.Fmt.{decimal-digits_value, decimal_digit, decimal_injective, digits_decimal, first_decimal, parse-decimal}
use Rattle.std.proofs.lemmas.Str.Parse.{IsNumeralModel, numerals_by_value, parse_plain, tells_digits}
use Rattle.std.proofs.lemmas.Str.Pattern.{NoCharPasses-char, drop_at_char}
use Rattle.std.specs.Str.Pattern.{RFindsChar, SplitsAroundMatch}
use Rattle.pocsag_shell.specs.declared.left_over.LeftOver.TheVariants.{Kept, Made}
use Rattle.pocsag_shell.specs.StagedFiles.{IsLockName, IsMadeName, IsStagedName}

own : IsNumeralModel (AllDigits 10) (digits_value 10)
own = numerals_by_value _ tells_digits

-- digits of which the first is 1 to 9 are what is written of their number
pub written : {E : Type 0} (bs : List ℕ) (r : Result ℕ E) (n : ℕ) → ParsesUnsigned 32 10 bs r → 48 < get_or bs 0 0 → r ≡ Ok n →
    (0 < n) × (n < 2 ^ 32) × (bs ≡ decimal n)
written {E} bs (Err e) n h first is = cc (is)
written {E} bs (Ok m) n h first is =
    let printed = parse_plain own {E = E} 32 bs (Ok m) h (λ e. omega (arith, e)) in
    let same : n ≡ digits_value 10 bs = cc (is, printed.1) in
    let text : decimal (digits_value 10 bs) ≡ bs =
    decimal-digits_value own bs printed.0.0 printed.0.1 (λ e. absurd (omega (arith, e))) (omega (arith, printed.0.2)) in
    let again : bs ≡ decimal n = sym text ∙ ap decimal (sym same) in
    (some n again, omega (arith, same, printed.0.2), again)
  where
    some : (k : ℕ) → bs ≡ decimal k → 0 < k
    some zero e = absurd (omega (arith, ap (λ (v : List ℕ). get_or v 0 0) (e ∙ decimal_digit 0 (omega arith))))
    some (suc k) e = omega arith

-- and what is written of a number begins so, and is read as that number
pub begins : (bs : List ℕ) (n : ℕ) → 0 < n → n < 2 ^ 32 → bs ≡ decimal n → 48 < get_or bs 0 0
begins bs n some small e = rw e (first_decimal n some (omega arith))

pub read_again : {E : Type 0} (bs : List ℕ) (r : Result ℕ E) (n : ℕ) → ParsesUnsigned 32 10 bs r → n < 2 ^ 32 → bs ≡ decimal n → r ≡ Ok n
read_again bs r n h small e = parse-decimal 32 n bs r small (omega arith) e h

-- a text has one ending of a length
pub same_ending : (a b e f : List ℕ) → length e ≡ length f → a ++ e ≡ b ++ f → e ≡ f
same_ending a b e f long is =
    let whole : length a + length e ≡ length b + length f = sym (length-append a e) ∙ (ap length is ∙ length-append b f) in
    let same : length a ≡ length b = omega (arith, whole, long) in
    sym (drop-append_seam a e) ∙ (ap (drop (length a)) is ∙ (ap (λ n. drop n (b ++ f)) same ∙ drop-append_seam b f))

-- no dot stands in these bytes
abbrev pub HasNoDot : List ℕ → Type 0
HasNoDot bs = (i : ℕ) → i < length bs → get_or bs i 0 ≢ 46

dot_within : (x y : List ℕ) → HasNoDot (x ++ 46 ∷ y) → ⊥
dot_within x y free = free (length x) (omega (arith, length-append x (46 ∷ y))) (get_or-append_seam x 46 y 0)

-- the last dot is where no other one follows
pub last_dot : (x a y b : List ℕ) → HasNoDot y → HasNoDot b → x ++ 46 ∷ y ≡ a ++ 46 ∷ b → (x ≡ a) × (y ≡ b)
last_dot [] [] y b one two e = (refl, cc (e))
last_dot [] (c ∷ a) y b one two e = let rest : y ≡ a ++ 46 ∷ b = cc (e) in absurd (dot_within a b (subst HasNoDot rest one))
last_dot (c ∷ x) [] y b one two e = let rest : b ≡ x ++ 46 ∷ y = cc (e) in absurd (dot_within x y (subst HasNoDot rest two))
last_dot (c ∷ x) (d ∷ a) y b one two e =
    let rest : x ++ 46 ∷ y ≡ a ++ 46 ∷ b = cc (e) in
    let same : c ≡ d = cc (e) in
    let more = last_dot x a y b one two rest in (cc (same, more.0), more.1)

no_dot_more : (c : ℕ) (cs : List ℕ) → digit_value c < 10 → HasNoDot cs → HasNoDot (c ∷ cs)
no_dot_more c cs digit free zero less = λ e. let wrong : digit_value 46 < 10 = subst (λ (d : ℕ). digit_value d < 10) e digit in omega (arith, wrong)
no_dot_more c cs digit free (suc i) less = free i (omega (arith, less))

no_dot_in : (ds : List ℕ) → AllDigits 10 ds → HasNoDot ds
no_dot_in [] h = λ i less. absurd (omega (arith, less))
no_dot_in (c ∷ cs) h = no_dot_more c cs h.0 (no_dot_in cs h.1)

-- where a text is split at its last dot
pub split_dot : (s : List ℕ) (r : Option (Bor (List ℕ) × Bor (List ℕ))) →
    MatchOption r (RFindsChar 46 s None) (λ x. SplitsAroundMatch (RFindsChar 46) s x.0.now x.1.now) →
    MatchOption r ((x y : List ℕ) → s ≢ x ++ 46 ∷ y) (λ x. (s ≡ x.0.now ++ 46 ∷ x.1.now) × HasNoDot x.1.now)
split_dot s None h = λ x y e. dot_within x y (subst HasNoDot e (λ i less. NoCharPasses-char 46 s i h (omega arith) less))
split_dot s (Some x) (i, j, found, front, back, le, fore, aft) =
    let here : drop i s ≡ 46 ∷ drop j s = drop_at_char 46 s i j found.1 (omega arith) in (
      sym (take-append-drop i s) ∙ (ap (λ (v : List ℕ). take i s ++ v) here ∙ cc (front, back)),
      subst HasNoDot (sym back) (λ k less. NoCharPasses-char 46 (drop j s) k found.0 (omega arith) less),
    )

-- what number is read of digits
abbrev pub IsNumberIn : List ℕ → Option ℕ → Type 0
IsNumberIn digits r = (n : ℕ) → (r ≡ Some n) ↔ ((0 < n) × (n < 2 ^ 32) × (digits ≡ decimal n))

first_none : (bs : List ℕ) → None ≡ slice_get bs 0 → get_or bs 0 0 ≤ 48
first_none [] e = omega arith
first_none (x ∷ xs) e = cc (e)

pub first_some : (bs : List ℕ) (x : ℕ) → Some x ≡ slice_get bs 0 → get_or bs 0 0 ≡ x
first_some [] x e = cc (e)
first_some (y ∷ ys) x e = cc (e)

pub none_read : (bs : List ℕ) (r : Option ℕ) → r ≡ None → get_or bs 0 0 ≤ 48 → IsNumberIn bs r
none_read bs r is low n = (λ (e : r ≡ Some n). cc (e, is), λ d. absurd (omega (arith, low, begins bs n d.0 d.1 d.2)))

pub none_read_of : (bs : List ℕ) (r : Option ℕ) → r ≡ None → None ≡ slice_get bs 0 → IsNumberIn bs r
none_read_of bs r is e = none_read bs r is (first_none bs e)

ok_from : {E : Type 0} (r : Result ℕ E) (n : ℕ) → result_ok r ≡ Some n → r ≡ Ok n
ok_from (Ok m) n e = cc (e)
ok_from (Err f) n e = cc (e)

pub parsed : {E : Type 0} (bs : List ℕ) (r : Result ℕ E) (o : Option ℕ) → o ≡ result_ok r → ParsesUnsigned 32 10 bs r → 48 < get_or bs 0 0 →
    IsNumberIn bs o
parsed {E} bs r o is h first n = (
  λ (e : o ≡ Some n). written bs r n h first (ok_from r n (sym is ∙ e)),
  λ d. is ∙ ap result_ok (read_again bs r n h d.1 d.2),
)

-- what stands before the ending of a name that a process gave
whole_name : (front digits ending : List ℕ) → (front ++ 46 ∷ digits) ++ ending ≡ front ++ 46 ∷ (digits ++ ending)
whole_name front digits ending = append_assoc front (46 ∷ digits) ending

text_of : (front : List ℕ) (n : ℕ) (ending file : List ℕ) → IsStagedName front n ending file → file ≡ (front ++ 46 ∷ decimal n) ++ ending
text_of front n ending file is = is.named ∙ sym (whole_name front (decimal n) ending)

no_dot_decimal : (n : ℕ) → n < 2 ^ 32 → HasNoDot (decimal n)
no_dot_decimal n small = no_dot_in (decimal n) (digits_decimal own n (omega (arith, small)))

module _ (file ending : List ℕ) where
  pub staged : (text front digits : List ℕ) (n : ℕ) → file ≡ text ++ ending → text ≡ front ++ 46 ∷ digits →
      (0 < n) × (n < 2 ^ 32) × (digits ≡ decimal n) → IsStagedName front n ending file
  staged text front digits n ends parts number = record {
    some = number.0;
    small = number.1;
    named = ends ∙ (ap (λ (v : List ℕ). v ++ ending) parts ∙ (whole_name front digits ending ∙ ap (λ (v : List ℕ). front ++ 46 ∷ (v ++ ending)) number.2));
  }

  pub without_ending : ((front : List ℕ) → file ≢ front ++ ending) → (front : List ℕ) (n : ℕ) → IsStagedName front n ending file → ⊥
  without_ending none front n is = none (front ++ 46 ∷ decimal n) (text_of front n ending file is)

  split_text : (text front : List ℕ) (n : ℕ) → file ≡ text ++ ending → IsStagedName front n ending file → text ≡ front ++ 46 ∷ decimal n
  split_text text front n ends is = append_cancel_right text (front ++ 46 ∷ decimal n) ending (sym ends ∙ text_of front n ending file is)

  pub without_dot : (text : List ℕ) → file ≡ text ++ ending → ((x y : List ℕ) → text ≢ x ++ 46 ∷ y) → (front : List ℕ) (n : ℕ) →
      IsStagedName front n ending file → ⊥
  without_dot text ends none front n is = none front (decimal n) (split_text text front n ends is)

  pub without_number : (text before digits : List ℕ) (r : Option ℕ) → file ≡ text ++ ending → (text ≡ before ++ 46 ∷ digits) × HasNoDot digits →
      IsNumberIn digits r → r ≡ None → (front : List ℕ) (n : ℕ) → IsStagedName front n ending file → ⊥
  without_number text before digits r ends parts reads none front n is =
      let same = last_dot before front digits (decimal n) parts.1 (no_dot_decimal n is.small) (sym parts.0 ∙ split_text text front n ends is) in
      let some : r ≡ Some n = (reads n).1 (is.some, is.small, same.1) in cc (some, none)

  pub same_name : (one two : List ℕ) (m n : ℕ) → IsStagedName one m ending file → IsStagedName two n ending file → (one ≡ two) × (m ≡ n)
  same_name one two m n first second =
      let same = last_dot one two (decimal m) (decimal n) (no_dot_decimal m first.small) (no_dot_decimal n second.small)
      (sym (split_text (one ++ 46 ∷ decimal m) one m (text_of one m ending file first) first) ∙ split_text (one ++ 46 ∷ decimal m) two n (text_of one m ending file first) second) in
      (same.0, decimal_injective m n (omega (arith, first.small)) (omega (arith, second.small)) same.1)

-- no name has both endings, and none is that of a lock too
pub two_endings : (file one two : List ℕ) (m n : ℕ) → IsStagedName one m (codes ".new") file → IsStagedName two n (codes ".old") file → ⊥
two_endings file one two m n first second =
    let last : codes ".new" ≡ codes ".old" =
    same_ending (one ++ 46 ∷ decimal m) (two ++ 46 ∷ decimal n) (codes ".new") (codes ".old") refl
    (sym (text_of one m (codes ".new") file first) ∙ text_of two n (codes ".old") file second) in
    let letter : 110 ≡ 111 = ap (λ (v : List ℕ). get_or v 1 0) last in
    omega (arith, letter)

lock_ending : (file one ending : List ℕ) (m : ℕ) → length ending ≡ 4 → get_or ending 0 0 ≡ 46 → IsLockName file → IsStagedName one m ending file → ⊥
lock_ending file one ending m four dot lock is =
    let last : codes "lock" ≡ ending =
    same_ending (lock.place ++ codes ".pocsag.") (one ++ 46 ∷ decimal m) (codes "lock") ending (sym four)
    (append_assoc lock.place (codes ".pocsag.") (codes "lock") ∙ (sym lock.named ∙ text_of one m ending file is)) in
    let letter : 108 ≡ 46 = ap (λ (v : List ℕ). get_or v 0 0) last ∙ dot in
    omega (arith, letter)

-- the number and the place of what a process made or kept is that of the name that was split
pub lock_made : (file : List ℕ) → IsLockName file → (n : ℕ) → IsMadeName n file → ⊥
lock_made file lock n made = lock_ending file (made.place ++ codes ".pocsag") (codes ".new") n refl refl lock made.named

pub lock_kept : (front file : List ℕ) → IsLockName file → (n : ℕ) → IsStagedName front n (codes ".old") file → ⊥
lock_kept front file lock n kept = lock_ending file front (codes ".old") n refl refl lock kept

pub made_of : (front place file : List ℕ) (m : ℕ) → IsStagedName front m (codes ".new") file → front ≡ place ++ codes ".pocsag" → (n : ℕ) →
    (Made m ≡ Made n) ↔ IsMadeName n file
made_of front place file m named parts n = (
  λ e. let same : m ≡ n = cc (e) in subst (λ (k : ℕ). IsMadeName k file) same
      (record { place = place; named = subst (λ (v : List ℕ). IsStagedName v m (codes ".new") file) parts named }),
  λ made. ap Made (same_name file (codes ".new") front (made.place ++ codes ".pocsag") m n named made.named).1,
)

pub not_made : (front file : List ℕ) (m : ℕ) → IsStagedName front m (codes ".new") file → ((place : List ℕ) → front ≢ place ++ codes ".pocsag") →
    (n : ℕ) → IsMadeName n file → ⊥
not_made front file m named none n made =
    none made.place (same_name file (codes ".new") front (made.place ++ codes ".pocsag") m n named made.named).0

pub kept_of : (name front place file : List ℕ) (m : ℕ) → IsStagedName front m (codes ".old") file → front ≡ place ++ codes ".pocsag" →
    place ≡ name → (n : ℕ) → (Kept m ≡ Kept n) ↔ IsStagedName (name ++ codes ".pocsag") n (codes ".old") file
kept_of name front place file m named parts own n = (
  λ e. let same : m ≡ n = cc (e) in subst (λ (k : ℕ). IsStagedName (name ++ codes ".pocsag") k (codes ".old") file) same
      (subst (λ (v : List ℕ). IsStagedName v m (codes ".old") file) (parts ∙ ap (λ (v : List ℕ). v ++ codes ".pocsag") own) named),
  λ kept. ap Kept (same_name file (codes ".old") front (name ++ codes ".pocsag") m n named kept).1,
)

pub not_kept : (name front file : List ℕ) (m : ℕ) → IsStagedName front m (codes ".old") file → front ≢ name ++ codes ".pocsag" → (n : ℕ) →
    IsStagedName (name ++ codes ".pocsag") n (codes ".old") file → ⊥
not_kept name front file m named other n kept = other (same_name file (codes ".old") front (name ++ codes ".pocsag") m n named kept).0

pub where_none : {X : Type 0} (r : Option X) (P : Type 0) → P → IfNone r P
where_none None P p = p
where_none (Some x) P p = tt

-- what a test of two texts tells
pub text_is : (r : Bool) (one two : List ℕ) → r ≡ pointwise nat_eq one two → (r ≡ true) ↔ (one ≡ two)
text_is true one two h = (λ e. same_text one two h, λ e. refl)
text_is false one two h = (λ e. cc (e), λ e. absurd (other_text one two h e))
