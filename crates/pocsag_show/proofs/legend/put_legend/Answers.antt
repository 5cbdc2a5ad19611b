use Rattle.pocsag_show.proofs.Prelude.{◌≡◌, ℕ, ◌+◌, ◌<◌, List, [], ◌∷◌, ◌++◌, length, take, get_or, refl, ap, sym, ◌∙◌, append_assoc, flat_map, append-nil, take_more, flat_map-append, entry_of, Placed}
use Rattle.pocsag_show.proofs.legend.put_legend.Goals.{then-is_drawn+in_ok-put_entry, else-is_drawn}
use Rattle.pocsag_show.proofs.legend.put_legend.Goals as goal

-- one element more
element_put : (f : Placed → List ℕ) (xs : List Placed) (i : ℕ) (x : Placed) (first before after : List ℕ) → i < length xs
    → x ≡ get_or xs i x → before ≡ first ++ flat_map f (take i xs) → after ≡ before ++ f x → after ≡ first ++ flat_map f (take (i + 1) xs)
element_put f xs i x first before after within is so_far put =
    let texts = flat_map f (take i xs) in
    put
    ∙ (ap (λ (l : List ℕ). l ++ f x) so_far ∙ (append_assoc first texts (f x)
    ∙ ap (λ (l : List ℕ). first ++ l) (ap (λ (l : List ℕ). texts ++ l) (sym (append-nil (f x)))
    ∙ (sym (flat_map-append f (take i xs) (x ∷ []))
    ∙ ap (flat_map f) (ap (λ (y : Placed). take i xs ++ y ∷ []) is ∙ sym (take_more xs i x within))))))

pub loop-page-preserved : goal.loop-page-preserved
unfolding entry_of
loop-page-preserved c =
    element_put (entry_of c.args.window.low c.args.window.high c.args.pages.now) c.args.pages.now c.loop-page.page-index c.page-item.result
    c.args.text.now.items c.loop-page.text.items _ c.loop-page-test.true c.page-item.is c.loop-page.invariant
    (elim c.if-is_drawn.branch [
      | then-is_drawn+in_ok-put_entry w ↦
          rw (w.text-is, w.in_ok-put_entry.ensures, w.place_in.ensures, c.count.ensures, ← c.is_drawn.ensures, w.if-is_drawn.true) refl
      | else-is_drawn w ↦ rw (w.text-is, ← c.is_drawn.ensures, w.if-is_drawn.false, append-nil) refl
    ])
