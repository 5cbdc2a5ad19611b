-- Nodes that were made one after another until the limit.
use Rattle.pocsag_branch.proofs.Prelude.{◌≡◌, ℕ, suc, ◌+◌, Bool, true, false, List, ◌∷◌, ◌++◌, replicate, sym, ap, ◌∙◌, arith, append_assoc, inl, inr, cases_eq, append-nil, replicate-append-replicate, Fills}

pub fills_node : (limit made after : ℕ) (marks : List Bool) → Fills limit (made + 1) after marks → Fills limit made after (false ∷ marks)
fills_node limit made after marks f =
    record {
      closed = suc f.closed;
      unseen = f.unseen;
      layout = ap (λ (xs : List Bool). false ∷ xs) f.layout;
      spent = omega (arith, f.spent);
      within = f.within;
      whole = f.whole;
    }

pub fills_join : (limit made between after : ℕ) (xs ys : List Bool) → Fills limit made between xs → Fills limit between after ys →
    Fills limit made after (xs ++ ys)
fills_join limit made between after xs ys f g =
    elim (cases_eq f.unseen 0) [
      | inl none ↦
          let first : xs ≡ replicate f.closed false = f.layout ∙ ap (λ (n : ℕ). replicate f.closed false ++ replicate n true) none
          ∙ append-nil (replicate f.closed false) in
          record {
            closed = f.closed + g.closed;
            unseen = g.unseen;
            layout = ap (λ (zs : List Bool). zs ++ ys) first
                ∙ ap (λ (zs : List Bool). replicate f.closed false ++ zs) g.layout
                ∙ sym (append_assoc (replicate f.closed false) (replicate g.closed false) (replicate g.unseen true))
                ∙ ap (λ (zs : List Bool). zs ++ replicate g.unseen true) (replicate-append-replicate f.closed g.closed false);
            spent = omega (arith, f.spent, g.spent);
            within = g.within;
            whole = g.whole;
          }
      | inr some ↦
          let full : between ≡ limit = f.whole (omega arith) in
          let no_more : g.closed ≡ 0 = omega (arith, g.spent, g.within) in
          let second : ys ≡ replicate g.unseen true = g.layout ∙ ap (λ (n : ℕ). replicate n false ++ replicate g.unseen true) no_more in
          record {
            closed = f.closed;
            unseen = f.unseen + g.unseen;
            layout = ap (λ (zs : List Bool). zs ++ ys) f.layout
                ∙ ap (λ (zs : List Bool). (replicate f.closed false ++ replicate f.unseen true) ++ zs) second
                ∙ append_assoc (replicate f.closed false) (replicate f.unseen true) (replicate g.unseen true)
                ∙ ap (λ (zs : List Bool). replicate f.closed false ++ zs) (replicate-append-replicate f.unseen g.unseen true);
            spent = omega (arith, f.spent, g.spent);
            within = g.within;
            whole = λ more. omega (arith, g.spent, g.within);
          }
    ]
