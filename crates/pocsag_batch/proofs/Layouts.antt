-- The loop that lays a round in file order, and the batches of a legal list.
use Rattle.pocsag_batch.proofs.Prelude.{◌≡◌, ℕ, ◌+◌, ◌*◌, ◌/◌, ◌%◌, ◌^◌, ◌<◌, ◌≤◌, List, [], ◌∷◌, ◌++◌, length, map, replicate, drop, refl, ap, ◌∙◌, arith, append_assoc, drop_all, length-map, length-replicate, kind_of, Kind, End, Page, page_words, page_length, IsLegalFor, IsLeastFrom, IsInFrame, IsWhole, InOrder, at_end, past_page, IsFileOrder, length-append, Idle, Open, IsLegalList}
use Rattle.pocsag_batch.specs.WordLists.{AreBatches}
use Rattle.pocsag_batch.proofs.FileOrders.{page_words_long, whole_in_order, some_words, legal_in_order}

pub idled_length : (gap : ℕ) (ws vs : List ℕ) → map kind_of vs ≡ map kind_of ws ++ replicate gap Idle → length vs ≡ length ws + gap
idled_length gap ws vs idles =
    omega (
      arith,
      ap length idles,
      length-append (map kind_of ws) (replicate gap Idle),
      length-replicate gap Idle,
      length-map ws kind_of,
      length-map vs kind_of,
    )

pub laid_length : (p : Page) (gap : ℕ) (ws vs us : List ℕ) →
    map kind_of vs ≡ map kind_of ws ++ replicate gap Idle → map kind_of us ≡ map kind_of vs ++ page_words p →
    length us ≡ length ws + gap + page_length p
laid_length p gap ws vs us idles page =
    let a : length vs ≡ length ws + gap = idled_length gap ws vs idles in
    omega (
      arith,
      ap length page,
      length-append (map kind_of vs) (page_words p),
      page_words_long p,
      length-map us kind_of,
      length-map vs kind_of,
    )

pub laid_more : (R left : List Page) (p : Page) (gap : ℕ) (ws vs us : List ℕ) →
    map kind_of vs ≡ map kind_of ws ++ replicate gap Idle → map kind_of us ≡ map kind_of vs ++ page_words p →
    IsLeastFrom (length ws) (IsInFrame (p.address % 8)) (length ws + gap) →
    ((U : List Kind) → InOrder (length ws) (p ∷ left) U → IsFileOrder R (map kind_of ws ++ U)) →
    (U : List Kind) → InOrder (length us) left U → IsFileOrder R (map kind_of us ++ U)
laid_more R left p gap ws vs us idles page least so_far U order =
    let long : length us ≡ length ws + gap + page_length p = laid_length p gap ws vs us idles page in
    let here : InOrder (length ws) (p ∷ left) (replicate gap Idle ++ (page_words p ++ U)) =
    past_page gap U least refl (rw (← long) order) in
    let whole : map kind_of us ++ U ≡ map kind_of ws ++ (replicate gap Idle ++ (page_words p ++ U)) =
    ap (λ v. v ++ U) page
    ∙ (ap (λ v. (v ++ page_words p) ++ U) idles
    ∙ (append_assoc (map kind_of ws ++ replicate gap Idle) (page_words p) U
    ∙ append_assoc (map kind_of ws) (replicate gap Idle) (page_words p ++ U))) in
    rw whole (so_far (replicate gap Idle ++ (page_words p ++ U)) here)

pub laid_last : (R : List Page) (k gap : ℕ) (ws vs : List ℕ) → length R ≤ k →
    map kind_of vs ≡ map kind_of ws ++ replicate gap Idle →
    IsLeastFrom (length ws) IsWhole (length ws + gap) →
    ((U : List Kind) → InOrder (length ws) (drop k R) U → IsFileOrder R (map kind_of ws ++ U)) →
    IsFileOrder R (map kind_of vs)
laid_last R k gap ws vs all idles least so_far =
    let none : drop k R ≡ [] = drop_all k R all in
    let last : InOrder (length ws) (drop k R) (replicate gap Idle) =
    rw none (at_end gap least refl) in
    rw idles (so_far (replicate gap Idle) last)

pub laid_batches : (R : List Page) (vs : List ℕ) → 0 < length R → length vs < 2 ^ 36 → IsFileOrder R (map kind_of vs) → AreBatches vs
laid_batches [] vs some few f = absurd (omega arith)
laid_batches (p ∷ R) vs some few f =
    let whole : (0 + length (map kind_of vs)) % 16 ≡ 0 = whole_in_order f in
    let long : 0 < length (map kind_of vs) = some_words f in
    let same : length (map kind_of vs) ≡ length vs = length-map vs kind_of in
    record { some = omega arith; whole = omega arith; few = few }

pub laid_legal : (R : List Page) (vs : List ℕ) → 0 < length R → IsFileOrder R (map kind_of vs)
    → IsLegalFor Open (map kind_of vs) (length vs / 16) R
laid_legal R vs some f =
    rw (← (length-map vs kind_of)) (legal_in_order R (map kind_of vs) some f)

pub list_batches : (end : End) (R : List Page) (b : ℕ) (ws : List ℕ) → b < 2 ^ 32 → IsLegalList end ws b R → AreBatches ws
list_batches end R b ws few legal =
    let some : 0 < b = legal.1.0.whole.0 in
    let long : length (map kind_of ws) ≡ 16 * b = legal.1.0.whole.1 in
    let same : length (map kind_of ws) ≡ length ws = length-map ws kind_of in
    record { some = omega arith; whole = omega arith; few = omega arith }
