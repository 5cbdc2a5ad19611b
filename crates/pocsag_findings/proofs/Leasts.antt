-- A set has one least load.
use Rattle.pocsag_findings.proofs.Prelude.{◌≡◌, ℕ, arith, Classes, Limits, IsLeastLoad}

pub one_least : (k : Classes) (l : Limits) (set m n : ℕ) → IsLeastLoad k l set m → IsLeastLoad k l set n → m ≡ n
one_least k l set m n a b = omega (arith, a.lower b.met.0 b.met.1, b.lower a.met.0 a.met.1, a.met.2, b.met.2)
