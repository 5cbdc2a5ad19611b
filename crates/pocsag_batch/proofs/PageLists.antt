-- The pages of a round one after another.
use Rattle.pocsag_batch.proofs.Prelude.{◌≡◌, ℕ, ◌<◌, List, length, get_or, All-get_or, Page, IsRound, IsGoodPage, good_pages}

pub good_at : (R : List Page) (k : ℕ) (p : Page) → IsRound R → k < length R → p ≡ get_or R k p → IsGoodPage p
good_at R k p r h is =
    rw is (All-get_or IsGoodPage R k p h (good_pages R r.good))
