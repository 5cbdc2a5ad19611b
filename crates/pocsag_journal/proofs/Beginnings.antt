-- How bytes begin: with the first line, as a part of it, or otherwise.
use Rattle.pocsag_journal.proofs.Prelude.{◌≡◌, ◌≢◌, inl, inr, ℕ, Bool, true, false, List, [], ◌++◌, sym, ap, ◌∙◌, true≢false, append-nil, default_writer, row_text, first_record, IsBegun, IsFirstCut}

-- what is before the first line's end, and is not all of it
pub cut_of : (bytes line rest : List ℕ) → line ≡ row_text default_writer first_record → line ≡ bytes ++ rest →
    ((more : List ℕ) → bytes ≢ line ++ more) → IsFirstCut bytes
cut_of bytes line rest same e n = (
  rest,
  (λ none. n [] (sym (e ∙ ap (λ (l : List ℕ). bytes ++ l) none ∙ append-nil bytes) ∙ sym (append-nil line))),
  sym e ∙ same,
)

pub not_begun : (bytes line : List ℕ) (starts : Bool) → line ≡ row_text default_writer first_record →
    ((more : List ℕ) → bytes ≢ line ++ more) → ((more : List ℕ) → line ≡ bytes ++ more → starts ≡ true) → starts ≡ false →
    ¬ IsBegun bytes
not_begun bytes line starts same n m differs (inl h) = n h.0 (h.1 ∙ ap (λ (l : List ℕ). l ++ h.0) (sym same))
not_begun bytes line starts same n m differs (inr h) = true≢false (sym (m h.0 (same ∙ sym h.2)) ∙ differs)
