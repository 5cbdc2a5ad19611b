-- A field that is read is the field that was written, and what was written is read again.
use Rattle.pocsag_tree.proofs.Prelude.{◌≡◌, ℕ, zero, suc, ◌+◌, ◌*◌, ◌^◌, ◌<◌, ◌≤◌, ◌⊎◌, inl, inr, Bool, true, false, cond, ltb, leb, List, [], ◌∷◌, ◌++◌, length, get_or, take, drop, Result, Ok, Err, refl, sym, ap, subst, ◌∙◌, arith, ◌&&◌, Width, w8, w16, w32, to_be_bytes, ltb-true, lt-ltb, le-leb, and_from, CertificateFault, ◌>>=◌, byte_at, number_at, small_at, large_at, long_number_at, batches_at, ◌/◌, ◌%◌, byte_len, from_be_bytes, leb-true, and_parts}
use Rattle.std.proofs.lemmas.Nat.{be_bytes_2, be_bytes_4}
use Rattle.pocsag_tree.specs.declared.refusals.CertificateFault.TheVariants as fault

-- ---- steps that may fail

-- the value of a step that did not fail
pub bind_ok : {A B : Type 0} (r : Result A CertificateFault) (f : A → Result B CertificateFault) (y : B) → (r >>= f) ≡ Ok y
    → (x : A) × (r ≡ Ok x) × (f x ≡ Ok y)
bind_ok (Ok x) f y e = (x, refl, e)
bind_ok (Err d) f y e = absurd cc

-- where the fault came from
pub bind_err : {A B : Type 0} (r : Result A CertificateFault) (f : A → Result B CertificateFault) (d : CertificateFault) → (r >>= f) ≡ Err d
    → (r ≡ Err d) ⊎ ((x : A) × (r ≡ Ok x) × (f x ≡ Err d))
bind_err (Ok x) f d e = inr (x, refl, e)
bind_err (Err c) f d e = inl (let same : c ≡ d = cc in ap Err same)

-- a test that did not fail
pub guard_ok : {A : Type 0} (b : Bool) (x y : A) (d : CertificateFault) → cond b (Ok x) (Err d) ≡ Ok y → (b ≡ true) × (x ≡ y)
guard_ok true x y d e = (refl, cc)
guard_ok false x y d e = absurd cc

-- a test that went the other way, and one that went this way
pub guard_other : {A : Type 0} (b : Bool) (d : CertificateFault) (r : Result A CertificateFault) (y : A) → cond b (Err d) r ≡ Ok y
    → (b ≡ false) × (r ≡ Ok y)
guard_other true d r y e = absurd cc
guard_other false d r y e = (refl, e)

pub guard_then : {A : Type 0} (b : Bool) (d : CertificateFault) (r : Result A CertificateFault) (y : A) → cond b r (Err d) ≡ Ok y
    → (b ≡ true) × (r ≡ Ok y)
guard_then true d r y e = (refl, e)
guard_then false d r y e = absurd cc

-- the way that a test went
pub chosen : {X : Type 0} (b : Bool) (x y z : X) → cond b x y ≡ z → ((b ≡ true) × (x ≡ z)) ⊎ ((b ≡ false) × (y ≡ z))
chosen true x y z e = inl (refl, e)
chosen false x y z e = inr (refl, e)

abbrev pub done : {A : Type 0} → A → Result A CertificateFault
done x = Ok x

pub ok_is : {A : Type 0} (x y : A) → done x ≡ done y → x ≡ y
ok_is x y e = cc

-- ---- one byte

pub record ByteIs (bytes : List ℕ) (b : ℕ) (rest : List ℕ) : Type 0 where
  pub parts : bytes ≡ b ∷ rest
  pub small : b < 256

pub byte_is : (bytes : List ℕ) (x : ℕ × List ℕ) → byte_at bytes ≡ Ok x → ByteIs bytes x.0 x.1
byte_is [] x e = absurd cc
byte_is (b ∷ bytes) x e =
    let g = guard_ok (ltb b 256) (b, bytes) x fault.ReadFault e in
    rw (← g.1) (record { parts = refl; small = ltb-true _ _ g.0 })

pub byte_again : (b : ℕ) (rest : List ℕ) → b < 256 → byte_at (b ∷ rest) ≡ Ok (b, rest)
byte_again b rest lt = rw (lt-ltb b 256 lt) refl

-- the end came, since no reader gives a number from 256 on
pub byte_short : (bytes : List ℕ) (f : CertificateFault) → byte_at bytes ≡ Err f → (f ≡ fault.ReadFault → ⊥)
    → (f ≡ fault.Truncated) × (bytes ≡ [])
byte_short [] f e given = (cc, refl)
byte_short (b ∷ bytes) f e given =
    elim (chosen (ltb b 256) (Ok (b, bytes)) (Err fault.ReadFault) (Err f) e) [
      | inl h ↦ absurd cc
      | inr h ↦ absurd (given (let no = h.1 in cc))
    ]

-- ---- numbers of one, two and four bytes

-- the number that stands at the front of the bytes
pub record NumberIs (w : Width) (bytes : List ℕ) (n : ℕ) (rest : List ℕ) : Type 0 where
  pub long : byte_len w ≤ length bytes
  pub value : from_be_bytes w (take (byte_len w) bytes) ≡ n
  pub after : drop (byte_len w) bytes ≡ rest

-- the bytes end before the number does
pub record IsShort (w : Width) (bytes : List ℕ) (f : CertificateFault) : Type 0 where
  pub truncated : f ≡ fault.Truncated
  pub short : length bytes < byte_len w

pub one_is : (b : ℕ) (rest : List ℕ) → NumberIs w8 (b ∷ rest) b rest
one_is b rest = record { long = omega arith; value = refl; after = refl }

pub two_is : (h l : ℕ) (rest : List ℕ) → NumberIs w16 (h ∷ l ∷ rest) (h * 256 + l) rest
two_is h l rest = record { long = omega arith; value = omega arith; after = refl }

pub four_is : (a b c d : ℕ) (rest : List ℕ) → NumberIs w32 (a ∷ b ∷ c ∷ d ∷ rest) ((a * 256 + b) * 65536 + (c * 256 + d)) rest
four_is a b c d rest = record { long = omega arith; value = omega arith; after = refl }

two_small : (h l : ℕ) → h < 256 → l < 256 → (i : ℕ) → get_or (h ∷ l ∷ []) i 0 < 256
two_small h l x y zero = x
two_small h l x y (suc zero) = y
two_small h l x y (suc (suc i)) = omega arith

four_small : (a b c d : ℕ) → a < 256 → b < 256 → c < 256 → d < 256 → (i : ℕ) → get_or (a ∷ b ∷ c ∷ d ∷ []) i 0 < 256
four_small a b c d p q r s zero = p
four_small a b c d p q r s (suc zero) = q
four_small a b c d p q r s (suc (suc zero)) = r
four_small a b c d p q r s (suc (suc (suc zero))) = s
four_small a b c d p q r s (suc (suc (suc (suc i)))) = omega arith

-- what a number of two bytes that was read says of the bytes
pub record TwoIs (bytes : List ℕ) (n : ℕ) (rest : List ℕ) : Type 0 where
  pub high : ℕ
  pub low : ℕ
  pub high_small : high < 256
  pub low_small : low < 256
  pub parts : bytes ≡ high ∷ low ∷ rest
  pub value : high * 256 + low ≡ n

pub number_is : (bytes : List ℕ) (x : ℕ × List ℕ) → number_at bytes ≡ Ok x → TwoIs bytes x.0 x.1
unfolding number_at
number_is bytes x e =
    let a = bind_ok (byte_at bytes) _ x e in
    let b = bind_ok (byte_at a.0.1) _ x a.2 in
    let high = byte_is bytes a.0 a.1 in
    let low = byte_is a.0.1 b.0 b.1 in
    rw (← ok_is _ x b.2)
    (record {
      high = a.0.0;
      low = b.0.0;
      high_small = high.small;
      low_small = low.small;
      parts = high.parts ∙ ap (λ t. a.0.0 ∷ t) low.parts;
      value = refl;
    })

pub number_value : (bytes : List ℕ) (x : ℕ × List ℕ) → number_at bytes ≡ Ok x → NumberIs w16 bytes x.0 x.1
number_value bytes x e =
    let t = number_is bytes x e in
    subst (λ n. NumberIs w16 bytes n x.1) t.value
    (subst (λ b. NumberIs w16 b (t.high * 256 + t.low) x.1) (sym t.parts) (two_is t.high t.low x.1))

pub number_takes : (bytes : List ℕ) (x : ℕ × List ℕ) → number_at bytes ≡ Ok x → (bytes ≡ to_be_bytes w16 x.0 ++ x.1) × (x.0 < 2 ^ 16)
number_takes bytes x e =
    let t = number_is bytes x e in
    let text : to_be_bytes w16 x.0 ≡ t.high ∷ t.low ∷ [] =
    be_bytes_2 (t.high ∷ t.low ∷ []) x.0 refl (two_small t.high t.low t.high_small t.low_small) (omega (arith, t.value)) in
    (t.parts ∙ ap (λ y. y ++ x.1) (sym text), omega (arith, t.value, t.high_small, t.low_small))

pub number_again : (n : ℕ) (rest : List ℕ) → n < 2 ^ 16 → number_at (to_be_bytes w16 n ++ rest) ≡ Ok (n, rest)
unfolding number_at
number_again n rest lt =
    let high : n / 256 % 256 < 256 = omega arith in
    let low : n % 256 < 256 = omega arith in
    let whole : n / 256 % 256 * 256 + n % 256 ≡ n = omega arith in
    rw (byte_again (n / 256 % 256) (n % 256 ∷ rest) high, byte_again (n % 256) rest low, whole) refl

pub number_short : (bytes : List ℕ) (f : CertificateFault) → number_at bytes ≡ Err f → (f ≡ fault.ReadFault → ⊥) → IsShort w16 bytes f
unfolding number_at
number_short bytes f e given =
    elim (bind_err (byte_at bytes) _ f e) [
      | inl h ↦ let s = byte_short bytes f h given in record { truncated = s.0; short = rw s.1 (omega arith) }
      | inr h ↦ elim (bind_err (byte_at h.0.1) _ f h.2) [
        | inl k ↦ let s = byte_short h.0.1 f k given in let first = byte_is bytes h.0 h.1 in
            record { truncated = s.0; short = rw (first.parts, s.1) (omega arith) }
        | inr k ↦ absurd cc
      ]
    ]

pub byte_value : (bytes : List ℕ) (x : ℕ × List ℕ) → byte_at bytes ≡ Ok x → NumberIs w8 bytes x.0 x.1
byte_value bytes x e = rw (byte_is bytes x e).parts (one_is x.0 x.1)

pub byte_is_short : (bytes : List ℕ) (f : CertificateFault) → byte_at bytes ≡ Err f → (f ≡ fault.ReadFault → ⊥) → IsShort w8 bytes f
byte_is_short bytes f e given = let s = byte_short bytes f e given in record { truncated = s.0; short = rw s.1 (omega arith) }

-- ---- numbers in a range

pub record InRange (low high n : ℕ) : Type 0 where
  pub least : low ≤ n
  pub most : n ≤ high

range_is : (low high n : ℕ) → (leb low n && leb n high) ≡ true → InRange low high n
range_is low high n e = let p = and_parts (leb low n) (leb n high) e in record { least = leb-true _ _ p.0; most = leb-true _ _ p.1 }

pub range_true : (low high n : ℕ) → low ≤ n → n ≤ high → (leb low n && leb n high) ≡ true
range_true low high n a b = and_from (leb low n) (leb n high) (le-leb _ _ a) (le-leb _ _ b)

pub small_takes : (low high : ℕ) (bytes : List ℕ) (x : ℕ × List ℕ) → small_at low high bytes ≡ Ok x
    → ByteIs bytes x.0 x.1 × InRange low high x.0
unfolding small_at
small_takes low high bytes x e =
    let a = bind_ok (byte_at bytes) _ x e in
    let g = guard_ok (leb low a.0.0 && leb a.0.0 high) a.0 x fault.BadField a.2 in
    rw (← g.1) (byte_is bytes a.0 a.1, range_is low high a.0.0 g.0)

pub small_again : (low high n : ℕ) (rest : List ℕ) → low ≤ n → n ≤ high → n < 256 → small_at low high (n ∷ rest) ≡ Ok (n, rest)
unfolding small_at
small_again low high n rest a b lt = rw (byte_again n rest lt, range_true low high n a b) refl

pub large_takes : (low high : ℕ) (bytes : List ℕ) (x : ℕ × List ℕ) → large_at low high bytes ≡ Ok x
    → (bytes ≡ to_be_bytes w16 x.0 ++ x.1) × (x.0 < 2 ^ 16) × InRange low high x.0
unfolding large_at
large_takes low high bytes x e =
    let a = bind_ok (number_at bytes) _ x e in
    let g = guard_ok (leb low a.0.0 && leb a.0.0 high) a.0 x fault.BadField a.2 in
    let t = number_takes bytes a.0 a.1 in
    rw (← g.1) (t.0, t.1, range_is low high a.0.0 g.0)

pub large_again : (low high n : ℕ) (rest : List ℕ) → low ≤ n → n ≤ high → n < 2 ^ 16
    → large_at low high (to_be_bytes w16 n ++ rest) ≡ Ok (n, rest)
unfolding large_at
large_again low high n rest a b lt = rw (number_again n rest lt, range_true low high n a b) refl

-- ---- the batches

-- the number of four bytes, judged or not
pub record FourIs (bytes : List ℕ) (n : ℕ) (rest : List ℕ) : Type 0 where
  pub number : NumberIs w32 bytes n rest
  pub parts : bytes ≡ to_be_bytes w32 n ++ rest
  pub small : n < 2 ^ 32

pub four_from_twos : (bytes middle rest : List ℕ) (h l : ℕ) → TwoIs bytes h middle → TwoIs middle l rest → FourIs bytes (h * 65536 + l) rest
four_from_twos bytes middle rest h l p q =
    let n = (p.high * 256 + p.low) * 65536 + (q.high * 256 + q.low) in
    let shape : bytes ≡ p.high ∷ p.low ∷ q.high ∷ q.low ∷ rest = p.parts ∙ ap (λ t. p.high ∷ p.low ∷ t) q.parts in
    let value : n ≡ h * 65536 + l = omega (arith, p.value, q.value) in
    let text : to_be_bytes w32 n ≡ p.high ∷ p.low ∷ q.high ∷ q.low ∷ [] =
    be_bytes_4 (p.high ∷ p.low ∷ q.high ∷ q.low ∷ []) n refl
    (four_small p.high p.low q.high q.low p.high_small p.low_small q.high_small q.low_small) (omega arith) in
    rw (← value)
    (record {
      number = rw shape (four_is p.high p.low q.high q.low rest);
      parts = shape ∙ ap (λ t. t ++ rest) (sym text);
      small = omega (arith, p.high_small, p.low_small, q.high_small, q.low_small);
    })

pub long_number_is : (bytes : List ℕ) (x : ℕ × List ℕ) → long_number_at bytes ≡ Ok x → FourIs bytes x.0 x.1
unfolding long_number_at
long_number_is bytes x e =
    let a = bind_ok (number_at bytes) _ x e in
    let b = bind_ok (number_at a.0.1) _ x a.2 in
    rw (← ok_is _ x b.2)
    (four_from_twos bytes a.0.1 b.0.1 a.0.0 b.0.0 (number_is bytes a.0 a.1) (number_is a.0.1 b.0 b.1))

pub long_number_short : (bytes : List ℕ) (f : CertificateFault) → long_number_at bytes ≡ Err f → (f ≡ fault.ReadFault → ⊥)
    → IsShort w32 bytes f
unfolding long_number_at
long_number_short bytes f e given =
    elim (bind_err (number_at bytes) _ f e) [
      | inl h ↦ let s = number_short bytes f h given in record { truncated = s.truncated; short = omega (arith, s.short) }
      | inr h ↦ elim (bind_err (number_at h.0.1) _ f h.2) [
        | inl k ↦
            let s = number_short h.0.1 f k given in
            let first = number_is bytes h.0 h.1 in
            record { truncated = s.truncated; short = omega (arith, s.short, ap length first.parts) }
        | inr k ↦ absurd cc
      ]
    ]

pub batches_takes : (bytes : List ℕ) (x : ℕ × List ℕ) → batches_at bytes ≡ Ok x → FourIs bytes x.0 x.1 × (1 ≤ x.0)
unfolding batches_at
batches_takes bytes x e =
    let a = bind_ok (long_number_at bytes) _ x e in
    let g = guard_ok (leb 1 a.0.0) a.0 x fault.BadField a.2 in
    rw (← g.1) (long_number_is bytes a.0 a.1, leb-true _ _ g.0)

pair_again : (h l : ℕ) (rest : List ℕ) → h < 256 → l < 256 → number_at (h ∷ l ∷ rest) ≡ Ok (h * 256 + l, rest)
unfolding number_at
pair_again h l rest p q = rw (byte_again h (l ∷ rest) p, byte_again l rest q) refl

four_whole : (n : ℕ) → n < 2 ^ 32 → (n / 16777216 % 256 * 256 + n / 65536 % 256) * 65536 + (n / 256 % 256 * 256 + n % 256) ≡ n
four_whole n lt = omega arith

four_again : (h l : ℕ) (bytes middle rest : List ℕ) → number_at bytes ≡ Ok (h, middle) → number_at middle ≡ Ok (l, rest) → 1 ≤ h * 65536 + l
    → batches_at bytes ≡ Ok (h * 65536 + l, rest)
unfolding batches_at long_number_at
four_again h l bytes middle rest p q some = rw (p, q, le-leb 1 (h * 65536 + l) some) refl

pub batches_again : (n : ℕ) (rest : List ℕ) → 1 ≤ n → n < 2 ^ 32 → batches_at (to_be_bytes w32 n ++ rest) ≡ Ok (n, rest)
batches_again n rest some lt =
    let a = n / 16777216 % 256 in
    let b = n / 65536 % 256 in
    let c = n / 256 % 256 in
    let d = n % 256 in
    let whole : (a * 256 + b) * 65536 + (c * 256 + d) ≡ n = four_whole n lt in
    let p : number_at (to_be_bytes w32 n ++ rest) ≡ Ok (a * 256 + b, c ∷ d ∷ rest) =
    pair_again a b (c ∷ d ∷ rest) (omega arith) (omega arith) in
    let q : number_at (c ∷ d ∷ rest) ≡ Ok (c * 256 + d, rest) = pair_again c d rest (omega arith) (omega arith) in
    subst (λ m. batches_at (to_be_bytes w32 n ++ rest) ≡ Ok (m, rest)) whole
    (four_again (a * 256 + b) (c * 256 + d) (to_be_bytes w32 n ++ rest) (c ∷ d ∷ rest) rest p q (omega (arith, whole)))
