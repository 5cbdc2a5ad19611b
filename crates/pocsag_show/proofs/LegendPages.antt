-- The legend of the first pages that are drawn.
use Rattle.pocsag_show.proofs.Prelude.{◌≡◌, ℕ, ◌+◌, ◌-◌, ◌*◌, ◌<◌, ◌&&◌, true, false, List, [], ◌∷◌, ◌++◌, length, refl, ap, ap₂, sym, ◌∙◌, arith, append_assoc, length-append, cond, nat_le, flat_map, lt-leb, append-nil, flat_map-append, sum_by-append, sum_by-cons, Placed, HasLegendOf, drawn_in, entry, entry_of, is_drawn, left_out, legend, place_in, stands_before}
use Rattle.std.specs.Prelude.{◌/◌}

flat_map_equal : (f g : Placed → List ℕ) (pls : List Placed) → ((pl : Placed) → f pl ≡ g pl) → flat_map f pls ≡ flat_map g pls
flat_map_equal f g [] same = refl
flat_map_equal f g (pl ∷ pls) same = ap₂ (λ (x y : List ℕ). x ++ y) (same pl) (flat_map_equal f g pls same)

module _ (low high : ℕ) where
  -- what a page adds to a list where it is drawn
  abbrev where_drawn : (Placed → List ℕ) → Placed → List ℕ
  where_drawn f pl = cond (is_drawn low high pl) (f pl) []

  -- of all pages those that are drawn were kept, and these are left
  pub record IsCollected (all kept left : List Placed) : Type 0 where
    pub count : drawn_in low high all ≡ length kept + drawn_in low high left
    pub drawn : drawn_in low high kept ≡ length kept
    pub places : (pl : Placed) → place_in low high all pl ≡ place_in low high kept pl + place_in low high left pl
    pub entries : (f : Placed → List ℕ) → flat_map (where_drawn f) all ≡ flat_map (where_drawn f) kept ++ flat_map (where_drawn f) left

  drawn_in-cons : (pl : Placed) (pls : List Placed) → drawn_in low high (pl ∷ pls) ≡ cond (is_drawn low high pl) 1 0 + drawn_in low high pls
  drawn_in-cons pl pls = sum_by-cons (λ (pl : Placed). cond (is_drawn low high pl) 1 0) pl pls

  drawn_in-append : (pls qs : List Placed) → drawn_in low high (pls ++ qs) ≡ drawn_in low high pls + drawn_in low high qs
  drawn_in-append pls qs = sum_by-append (λ (pl : Placed). cond (is_drawn low high pl) 1 0) pls qs

  place_in-cons : (q pl : Placed) (pls : List Placed)
      → place_in low high (pl ∷ pls) q ≡ cond (is_drawn low high pl && stands_before pl q) 1 0 + place_in low high pls q
  place_in-cons q pl pls = sum_by-cons (λ (pl : Placed). cond (is_drawn low high pl && stands_before pl q) 1 0) pl pls

  place_in-append : (q : Placed) (pls qs : List Placed)
      → place_in low high (pls ++ qs) q ≡ place_in low high pls q + place_in low high qs q
  place_in-append q pls qs = sum_by-append (λ (pl : Placed). cond (is_drawn low high pl && stands_before pl q) 1 0) pls qs

  pub collected_begun : (all kept : List Placed) → kept ≡ [] → IsCollected all kept all
  collected_begun all kept none = record {
    count = let n = ap length none in omega arith;
    drawn = ap (drawn_in low high) none ∙ ap length (sym none);
    places = λ pl. let n = ap (λ (pls : List Placed). place_in low high pls pl) none in omega arith;
    entries = λ f. ap (λ (pls : List Placed). flat_map (where_drawn f) pls ++ flat_map (where_drawn f) all) (sym none);
  }

  pub one_skipped : (all kept left rest : List Placed) (pl : Placed) → left ≡ pl ∷ rest → is_drawn low high pl ≡ false → IsCollected all kept left
      → IsCollected all kept rest
  one_skipped all kept left rest pl first out c = record {
    count = c.count ∙ ap (λ (n : ℕ). length kept + n) (ap (drawn_in low high) first ∙ (drawn_in-cons pl rest ∙ rw out (omega arith)));
    drawn = c.drawn;
    places = λ q.
        c.places q
        ∙ ap (λ (n : ℕ). place_in low high kept q + n)
        (ap (λ (pls : List Placed). place_in low high pls q) first ∙ (place_in-cons q pl rest ∙ rw out (omega arith)));
    entries = λ f.
        c.entries f ∙ ap (λ (l : List ℕ). flat_map (where_drawn f) kept ++ l) (ap (flat_map (where_drawn f)) first ∙ rw out refl);
  }

  pub one_kept : (all kept more left rest : List Placed) (pl : Placed) → left ≡ pl ∷ rest → is_drawn low high pl ≡ true
      → more ≡ kept ++ pl ∷ [] → IsCollected all kept left → IsCollected all more rest
  one_kept all kept more left rest pl first drawn pushed c =
      let one : drawn_in low high (pl ∷ []) ≡ 1 = drawn_in-cons pl [] ∙ rw drawn (omega arith) in
      let next : drawn_in low high left ≡ 1 + drawn_in low high rest = ap (drawn_in low high) first ∙ (drawn_in-cons pl rest ∙ rw drawn (omega arith)) in
      let long : length more ≡ length kept + 1 = ap length pushed ∙ length-append kept (pl ∷ []) in
      record {
        count = omega (arith, c.count);
        drawn = let d = c.drawn in ap (drawn_in low high) pushed ∙ (drawn_in-append kept (pl ∷ []) ∙ omega arith);
        places = λ q.
            let here = ap (λ (pls : List Placed). place_in low high pls q) pushed ∙ place_in-append q kept (pl ∷ []) in
            let there = ap (λ (pls : List Placed). place_in low high pls q) first in
            omega (arith, c.places q, here, there, place_in-cons q pl rest, place_in-cons q pl []);
        entries = λ f.
            c.entries f
            ∙ (ap (λ (pls : List Placed). flat_map (where_drawn f) kept ++ flat_map (where_drawn f) pls) first
            ∙ (ap (λ (l : List ℕ). flat_map (where_drawn f) kept ++ (l ++ flat_map (where_drawn f) rest)) (sym (append-nil (where_drawn f pl)))
            ∙ (sym (append_assoc (flat_map (where_drawn f) kept) (flat_map (where_drawn f) (pl ∷ [])) (flat_map (where_drawn f) rest))
            ∙ ap (λ (l : List ℕ). l ++ flat_map (where_drawn f) rest)
            (sym (flat_map-append (where_drawn f) kept (pl ∷ [])) ∙ ap (flat_map (where_drawn f)) (sym pushed)))));
      }

  -- all of them were kept
  pub legend_whole : (all kept left : List Placed) → left ≡ [] → IsCollected all kept left → HasLegendOf low high kept all
  unfolding legend entry_of
  legend_whole all kept left none c =
      let over : drawn_in low high left ≡ 0 = ap (drawn_in low high) none in
      let same : drawn_in low high kept ≡ drawn_in low high all = omega (arith, c.count, c.drawn) in
      let top = 112 + 22 * (high - low) in
      let entries : flat_map (entry_of low high kept) kept ≡ flat_map (entry_of low high all) all =
      flat_map_equal (entry_of low high kept) (entry_of low high all) kept
      (λ pl. ap (λ (n : ℕ). cond (is_drawn low high pl) (entry top n pl) [])
      (let nothing = ap (λ (pls : List Placed). place_in low high pls pl) none in omega (arith, c.places pl, nothing)))
      ∙ (sym (append-nil (flat_map (entry_of low high all) kept))
      ∙ (ap (λ (pls : List Placed). flat_map (entry_of low high all) kept ++ flat_map (entry_of low high all) pls) (sym none)
      ∙ sym (c.entries (λ pl. entry top (place_in low high all pl) pl)))) in
      record {
        lines = ap (λ (n : ℕ). cond (nat_le n 40) ((n + 2) / 3) 1) same;
        legend = ap₂ (λ (n : ℕ) (l : List ℕ). cond (nat_le n 40) l (left_out top)) same entries;
      }

  -- more were kept than a legend has
  pub legend_full : (all kept left : List Placed) → 40 < length kept → IsCollected all kept left → HasLegendOf low high kept all
  unfolding legend
  legend_full all kept left many c =
      let first : nat_le (drawn_in low high kept) 40 ≡ false = lt-leb _ _ (omega (arith, c.drawn)) in
      let whole : nat_le (drawn_in low high all) 40 ≡ false = lt-leb _ _ (omega (arith, c.count)) in
      record {
        lines = rw (first, whole) refl;
        legend = rw (first, whole) refl;
      }
