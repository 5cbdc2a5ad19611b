-- Pages that are handed out with their places.
use Rattle.pocsag_show.proofs.Prelude.{◌≡◌, ℕ, zero, suc, ◌+◌, ◌^◌, ◌<◌, List, [], ◌∷◌, map, drop, slice_index, refl, ap, ap₂, sym, subst, ◌∙◌, arith, All, get_or-drop, All-cons, All-head, All-nil, All-tail, kind_of, Kind, Page, codewords_in, reads_plainly, ReadsAs, codewords_are, starts_from, kinds_read, numbers_in, NumbersPages, number_below, PageNumbers, IsListable, Placed, placed, placed_in, placed_from}
use Rattle.std.proofs.Math.Seq.{drop-nil}
use Rattle.pocsag_show.proofs.PageNumbers.{addresses_small, numbers_are}
use Rattle.pocsag_show.proofs.LettersBefore.{first_of}

-- one further, and then more
drop_further : (xs : List ℕ) (i : ℕ) → drop 1 (drop i xs) ≡ drop (i + 1) xs
drop_further [] i = ap (drop 1) (drop-nil i) ∙ sym (drop-nil (i + 1))
drop_further (x ∷ xs) zero = refl
drop_further (x ∷ xs) (suc i) =
    let n : suc i + 1 ≡ suc (i + 1) = omega arith in drop_further xs i ∙ ap (λ (m : ℕ). drop m (x ∷ xs)) (sym n)

-- the pages with their places, from one on
pub placed_is : (number_of : ℕ → ℕ) (starts numbers : List ℕ) (i : ℕ) (ps : List Page) → map (λ p. number_of p.address) ps ≡ drop i numbers
    → placed_from number_of (drop i starts) ps ≡ placed i starts numbers ps
placed_is number_of starts numbers i [] e = refl
placed_is number_of starts numbers i (p ∷ ps) e =
    let n = first_of numbers (map (λ (p : Page). number_of p.address) ps) (number_of p.address) 0 i (sym e) in
    let start : slice_index (drop i starts) 0 ≡ slice_index starts i = get_or-drop i starts 0 0 ∙ ap (slice_index starts) (omega arith) in
    ap₂ (λ (pl : Placed) (pls : List Placed). pl ∷ pls)
    (ap₂ (λ (x y : ℕ). record { start = x; number = y; page = p }) start (sym n.0))
    (ap (λ (l : List ℕ). placed_from number_of l ps) (drop_further starts i) ∙ placed_is number_of starts numbers (i + 1) ps (sym n.1))

-- pages that may be listed may be so with their places
pub listable_placed : (number_of : ℕ → ℕ) (starts : List ℕ) (ps : List Page) → All IsListable ps
    → All (λ pl. IsListable pl.page) (placed_from number_of starts ps)
listable_placed number_of starts [] are = All-nil (λ (pl : Placed). IsListable pl.page)
listable_placed number_of starts (p ∷ ps) are =
    All-cons (λ (pl : Placed). IsListable pl.page) _ (placed_from number_of (drop 1 starts) ps) (All-head IsListable p ps are)
    (listable_placed number_of (drop 1 starts) ps (All-tail IsListable p ps are))

-- all pages of the bytes
pub all_placed : (X : List ℕ) (ps : List Page) (reading : ReadsAs X ps) (numbers : PageNumbers) → NumbersPages ps numbers → (index : ℕ)
    → (kinds : List Kind) (pages : List Page) → index ≡ 0 → kinds ≡ map kind_of (codewords_in X) → pages ≡ ps
    → placed_from (number_below numbers) (starts_from index kinds) pages ≡ placed_in (kinds_read reading) ps
all_placed X ps reading numbers are_numbers index kinds pages first are read =
    let plain = reads_plainly reading.reads in
    let small : All (λ p. p.address < 2 ^ 21) ps =
    subst (All (λ (p : Page). p.address < 2 ^ 21)) (sym plain.pages) (addresses_small reading.codewords 0) in
    let same : kinds ≡ kinds_read reading = are ∙ ap (map kind_of) (codewords_are X reading.codewords reading.sent) in
    ap₂ (λ (starts : List ℕ) (l : List Page). placed_from (number_below numbers) starts l) (ap₂ starts_from first same) read
    ∙ placed_is (number_below numbers) (starts_from 0 (kinds_read reading)) (numbers_in ps) 0 ps (numbers_are (number_below numbers) ps ps are_numbers small)
