use Rattle.pocsag_slots.proofs.Prelude.{◌≡◌, ℕ, ◌+◌, ◌-◌, ◌*◌, ◌^◌, ◌<◌, ◌≤◌, ◌⊎◌, inl, inr, arith, sym, slice_index, Classes, Limits, AreInOrder, Fits, min, w64, mul-le}
use Rattle.pocsag_slots.proofs.LeastLemmas.{least_none, least_of_class_is}
use Rattle.pocsag_slots.proofs.LoadLemmas.{count_few}
use Rattle.pocsag_slots.proofs.load.class_least.Goals as goal

-- an end of the limits is among the pages of the class, and what its runs load sixteen slots with is small
record IsFew (n m a b : ℕ) : Type 0 where
  among : m ≤ n
  taken : m * a ≤ 28160000
  others : (n - m) * b ≤ 28160000
  both : m * a + (n - m) * b ≤ 320000
  sum : m * a + (n - m) * b ≤ 28160000

few : (n m a b : ℕ) → m ≤ n → n ≤ 20000 → a ≤ 16 → b ≤ 16 → IsFew n m a b
few n m a b among counted early late =
    let first : m * a ≤ m * 16 = mul-le m a m 16 (omega arith) early in
    let second : (n - m) * b ≤ (n - m) * 16 = mul-le (n - m) b (n - m) 16 (omega arith) late in
    record { among = among; taken = omega arith; others = omega arith; both = omega arith; sum = omega arith }

few_at : (k : Classes) (l : Limits) (c n m a b : ℕ) → c < 136 → AreInOrder k l → n ≡ slice_index k.count c →
    (m ≡ slice_index l.lo c) ⊎ (m ≡ slice_index l.hi c) → a ≤ 16 → b ≤ 16 → IsFew n m a b
few_at k l c n m a b known ordered count ends early late =
    let order : slice_index l.lo c ≤ slice_index l.hi c = ordered.order c known in
    let counted : slice_index l.hi c ≤ slice_index k.count c = ordered.counted c known in
    let all : slice_index k.count c ≤ 20000 = count_few k c known in
    few n m a b (elim ends [ inl lo ↦ omega arith | inr hi ↦ omega arith ]) (omega arith) early late

turns_few : (k : Classes) (c t m : ℕ) → c < 136 → t ≡ slice_index k.turns c → m ≤ 16 → t * m ≤ 28160000
turns_few k c t m known turns few =
    let short : slice_index k.turns c ≤ 87 * slice_index k.count c = k.tables.short c known in
    let all : slice_index k.count c ≤ 20000 = count_few k c known in
    let turned : t * m ≤ 1740000 * 16 = mul-le t m 1740000 16 (omega arith) few in
    omega arith

all_few : (k : Classes) (c t m x y r : ℕ) → c < 136 → t ≡ slice_index k.turns c → m ≤ 16 → x ≤ 320000 → r ≡ min x y →
    t * m + r ≤ 28160000
all_few k c t m x y r known turns few part least =
    let short : slice_index k.turns c ≤ 87 * slice_index k.count c = k.tables.short c known in
    let all : slice_index k.count c ≤ 20000 = count_few k c known in
    let turned : t * m ≤ 1740000 * 16 = mul-le t m 1740000 16 (omega arith) few in
    omega arith

at_lo : (c : goal.After-members_covered-late) →
    IsFew c.from-count.result c.from-lo.result c.members_covered-early.result c.members_covered-late.result
at_lo c =
    few_at c.args.classes.now c.args.limits.now c.args.class.number _ _ _ _ c.args.class.known c.requires.ordered c.from-count.ensures
    (inl c.from-lo.ensures) c.members_covered-early.ensures.bound c.members_covered-late.ensures.bound

at_hi : (c : goal.After-members_covered-late) →
    IsFew c.from-count.result c.from-hi.result c.members_covered-early.result c.members_covered-late.result
at_hi c =
    few_at c.args.classes.now c.args.limits.now c.args.class.number _ _ _ _ c.args.class.known c.requires.ordered c.from-count.ensures
    (inr c.from-hi.ensures) c.members_covered-early.ensures.bound c.members_covered-late.ensures.bound

loaded : (c : goal.After-min) → c.from.result * c.args.members + c.min.result ≤ 28160000
loaded c =
    let lo =
    few_at c.args.classes.now c.args.limits.now c.args.class.number _ _ _ _ c.args.class.known c.requires.ordered c.from-count.ensures
    (inl c.from-lo.ensures) c.members_covered-early.ensures.bound c.members_covered-late.ensures.bound in
    all_few c.args.classes.now c.args.class.number _ _ _ _ _ c.args.class.known c.from.ensures c.requires.small lo.both c.min.ensures

fits : (n : ℕ) → n ≤ 28160000 → Fits w64 n
fits n h = record { fits = omega arith }

bound : (n : ℕ) → n ≤ 28160000 → n < 2 ^ 40
bound n h = omega arith

pub overflow_mul-at_lo : goal.overflow_mul-at_lo
overflow_mul-at_lo c = fits _ (at_lo c).taken

pub overflow_sub-at_lo : goal.overflow_sub-at_lo
overflow_sub-at_lo c = (at_lo c).among

pub overflow_mul-at_lo-2 : goal.overflow_mul-at_lo-2
overflow_mul-at_lo-2 c = fits _ (at_lo c).others

pub overflow_add-at_lo : goal.overflow_add-at_lo
overflow_add-at_lo c = fits _ (at_lo c).sum

pub overflow_mul-at_hi : goal.overflow_mul-at_hi
overflow_mul-at_hi c = fits _ (at_hi c).taken

pub overflow_sub-at_hi : goal.overflow_sub-at_hi
overflow_sub-at_hi c = (at_hi c).among

pub overflow_mul-at_hi-2 : goal.overflow_mul-at_hi-2
overflow_mul-at_hi-2 c = fits _ (at_hi c).others

pub overflow_add-at_hi : goal.overflow_add-at_hi
overflow_add-at_hi c = fits _ (at_hi c).sum

pub overflow_mul-result : goal.overflow_mul-result
overflow_mul-result c =
    fits _ (turns_few c.args.classes.now c.args.class.number _ _ c.args.class.known c.from.ensures c.requires.small)

pub overflow_add-result : goal.overflow_add-result
overflow_add-result c = fits _ (loaded c)

pub returns-clause-bound : goal.returns-clause-bound
returns-clause-bound c = bound _ (loaded c)

pub returns-then-classes-class-eq0-clause-value : goal.returns-then-classes-class-eq0-clause-value
returns-then-classes-class-eq0-clause-value c =
    sym (least_none c.args.classes.now c.args.limits.now c.args.set c.args.class.number c.args.class.known c.requires.ordered (omega arith))

pub returns-clause-value : goal.returns-clause-value
returns-clause-value c =
    cc (least_of_class_is c.args.classes.now c.args.limits.now c.args.set c.args.class.number)
