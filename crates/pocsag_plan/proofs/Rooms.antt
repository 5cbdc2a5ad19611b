-- The codewords of the pages of a legal transmission fit into its batches.
use Rattle.pocsag_plan.proofs.Prelude.{◌≡◌, ℕ, ◌+◌, ◌*◌, ◌≤◌, List, length, map, sum_by, arith, ap, length-append, length-map, sum_by-cons, sum_by-IsPermutation, Kind, End, Page, AreApart, IsLegalList, page_length, frame_at, Reads, at_end, past_idle, past_page}
use Rattle.pocsag_words.specs.Kinds.{kind_of}
use Rattle.pocsag_words.specs.declared.codeword.Kind.TheVariants.{Message}
use Rattle.pocsag_slots.proofs.Rearranged.{rearranged}

reads_long : {ws : List Kind} {i : ℕ} {ps : List Page} → Reads ws i ps → sum_by page_length ps ≤ length ws
reads_long at_end = omega arith
reads_long (past_idle r) = let rest = reads_long r in omega arith
reads_long (past_page {i = i} {high = high} {function = function} {ws = ws} {ps = ps} items rest e b r) =
    let left : sum_by page_length ps ≤ length rest = reads_long r in
    let long : length ws ≡ length items + length rest =
    omega (arith, ap length e, length-append (map Message items) rest, length-map items Message) in
    let p : Page = record { address = 8 * high + frame_at i; function = function; payload = items } in
    omega (arith, sum_by-cons page_length p ps)

pub room : (end : End) (R : List Page) (b : ℕ) (U : List ℕ) → AreApart R → IsLegalList end U b R → sum_by page_length R ≤ 16 * b
room end R b U apart legal =
    let read = legal.1.0 in
    let long : sum_by page_length read.ps ≤ length (map kind_of U) = reads_long read.reads in
    let same : sum_by page_length read.ps ≡ sum_by page_length R =
    sum_by-IsPermutation page_length R read.ps (rearranged R read.ps apart read.as_many read.each) in
    omega (arith, read.whole.1)
