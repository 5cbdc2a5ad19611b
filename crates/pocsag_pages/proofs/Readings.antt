-- A reading is the pages of the address codewords in order, where no message codeword is an orphan.
use Rattle.pocsag_pages.proofs.Prelude.{◌≡◌, ℕ, ◌+◌, List, [], ◌∷◌, ◌++◌, length, map, refl, sym, ap, subst, ◌∙◌, true, false, arith, add-zero, Page, Reads, at_end, past_idle, past_page, BeginsNoMessage}
use Rattle.pocsag_words.specs.declared.codeword.Kind.{Kind}
use Rattle.pocsag_words.specs.declared.codeword.Kind.TheVariants.{Idle, Address, Message}
use Rattle.pocsag_pages.specs.Plain.{HasNoOrphan, items_of, pages_from}

-- where no message codeword may stand first, none is an orphan after one either
may_follow : (ws : List Kind) → HasNoOrphan false ws → HasNoOrphan true ws
may_follow [] h = h
may_follow (Idle ∷ ws) h = h
may_follow (Address high function ∷ ws) h = h
may_follow (Message bits ∷ ws) h = absurd (cc (h.0))

-- a run of message codewords, and what follows it
run_follows : (items : List ℕ) (rest : List Kind) → HasNoOrphan false rest → HasNoOrphan true (map Message items ++ rest)
run_follows [] rest h = may_follow rest h
run_follows (b ∷ items) rest h = (refl, run_follows items rest h)

run_items : (items : List ℕ) (rest : List Kind) → BeginsNoMessage rest → items_of (map Message items ++ rest) ≡ items
run_items [] [] b = refl
run_items [] (Idle ∷ ws) b = refl
run_items [] (Address high function ∷ ws) b = refl
run_items [] (Message bits ∷ ws) b = absurd b
run_items (x ∷ items) rest b = ap (λ xs. x ∷ xs) (run_items items rest b)

run_pages : (items : List ℕ) (rest : List Kind) (i : ℕ) → pages_from i (map Message items ++ rest) ≡ pages_from (i + length items) rest
run_pages [] rest i = rw add-zero refl
run_pages (x ∷ items) rest i = run_pages items rest (i + 1) ∙ ap (λ j. pages_from j rest) (omega arith)

-- what a reading is
pub record IsPlain (ws : List Kind) (i : ℕ) (ps : List Page) : Type 0 where
  pub no_orphan : HasNoOrphan false ws
  pub pages : ps ≡ pages_from i ws

pub reads_plainly : {ws : List Kind} {i : ℕ} {ps : List Page} → Reads ws i ps → IsPlain ws i ps
reads_plainly at_end = record { no_orphan = tt; pages = refl }
reads_plainly (past_idle r) = let d = reads_plainly r in record { no_orphan = d.no_orphan; pages = d.pages }
reads_plainly {i = i} (past_page {high = high} {function = function} {ws = ws} {ps = ps} items rest e b r) =
    let d = reads_plainly r in
    record {
      no_orphan = subst (λ (v : List Kind). HasNoOrphan true v) (sym e) (run_follows items rest d.no_orphan);
      pages =
          let items_are : items_of ws ≡ items = ap items_of e ∙ run_items items rest b in
          let rest_are : pages_from (i + 1) ws ≡ ps = ap (pages_from (i + 1)) e ∙ (run_pages items rest (i + 1) ∙ sym d.pages) in
          cc;
    }

-- what follows the run of message codewords that stands first, read from index j on
record Follows (ws : List Kind) (j : ℕ) : Type 0 where
  rest : List Kind
  run : ws ≡ map Message (items_of ws) ++ rest
  begins : BeginsNoMessage rest
  reads : Reads rest (j + length (items_of ws)) (pages_from j ws)

record Readings (ws : List Kind) : Type 0 where
  whole : (i : ℕ) → HasNoOrphan false ws → Reads ws i (pages_from i ws)
  part : (j : ℕ) → HasNoOrphan true ws → Follows ws j

pub reads_at : (ws : List Kind) (ps : List Page) (i j : ℕ) → i ≡ j → Reads ws i ps → Reads ws j ps
reads_at ws ps i j e r = subst (λ (k : ℕ). Reads ws k ps) e r

readings : (ws : List Kind) → Readings ws
readings [] = record {
  whole = λ i h. at_end;
  part = λ j h. record { rest = []; run = refl; begins = tt; reads = at_end };
}
readings (Idle ∷ ws) =
    let d = readings ws in
    record {
      whole = λ i h. past_idle (d.whole (i + 1) h);
      part = λ j h. record {
        rest = Idle ∷ ws;
        run = refl;
        begins = tt;
        reads = reads_at _ _ j (j + 0) (omega arith) (past_idle (d.whole (j + 1) h));
      };
    }
readings (Address high function ∷ ws) =
    let d = readings ws in
    let page_reads : (i : ℕ) → HasNoOrphan true ws → Reads (Address high function ∷ ws) i (pages_from i (Address high function ∷ ws)) =
    λ i h. let f = d.part (i + 1) h in past_page (items_of ws) f.rest f.run f.begins f.reads in
    record {
      whole = page_reads;
      part = λ j h. record {
        rest = Address high function ∷ ws;
        run = refl;
        begins = tt;
        reads = reads_at _ _ j (j + 0) (omega arith) (page_reads j h);
      };
    }
readings (Message bits ∷ ws) =
    let d = readings ws in
    record {
      whole = λ i h. absurd (cc (h.0));
      part = λ j h.
          let f = d.part (j + 1) h.1 in
          record {
            rest = f.rest;
            run = ap (λ v. Message bits ∷ v) f.run;
            begins = f.begins;
            reads = reads_at _ _ (j + 1 + length (items_of ws)) (j + length (bits ∷ items_of ws)) (omega arith) f.reads;
          };
    }

pub plain_reads : (ws : List Kind) (i : ℕ) (ps : List Page) → HasNoOrphan false ws → ps ≡ pages_from i ws → Reads ws i ps
plain_reads ws i ps h e = subst (λ (v : List Page). Reads ws i v) (sym e) ((readings ws).whole i h)
