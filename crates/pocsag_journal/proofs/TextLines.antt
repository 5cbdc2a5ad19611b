-- Lines of a text, and the records that they are.
use Rattle.pocsag_journal.proofs.Prelude.{◌≡◌, ◌≢◌, ℕ, zero, suc, ◌+◌, ◌<◌, List, [], ◌∷◌, ◌++◌, length, take, arith, add-one, refl, sym, ap, ◌∙◌, subst, append_assoc, Bool, true, ◌==◌, eqb-true, Option, None, codes, slice_index, AllByRecursion, Read, line_feed, next_record, default_config, default_writer, fields_text, is_blank, read_back, row_text, read-write, Row, HasNoLineFeed, IsWholeLine, first_record, IsLine, rows_text}
use Rattle.std.proofs.Common.{append-nil, Some}
use Rattle.memchr.specs.Find.{NoneBefore, Passes, is_byte}
use Rattle.csv.specs.declared.parser.State.TheVariants as st
use Rattle.pocsag_journal.proofs.LineFeeds.{none_found}

-- two texts that begin with a line each and are equal begin with the same line
pub split_lines : (a b xs ys : List ℕ) → HasNoLineFeed a → HasNoLineFeed b → a ++ line_feed ∷ xs ≡ b ++ line_feed ∷ ys →
    (a ≡ b) × (xs ≡ ys)
split_lines [] [] xs ys p q e = (refl, cc e)
split_lines [] (b ∷ bs) xs ys p q e = absurd (q.0 (cc e))
split_lines (a ∷ front) [] xs ys p q e = absurd (p.0 (cc e))
split_lines (a ∷ front) (b ∷ bs) xs ys p q e =
    let h = split_lines front bs xs ys p.1 q.1 (cc e) in
    let same : a ≡ b = cc e in
    (rw (same, h.0) refl, h.1)

-- bytes without a line feed begin with no line
pub no_line : (a xs torn : List ℕ) → HasNoLineFeed torn → a ++ line_feed ∷ xs ≡ torn → ⊥
no_line [] xs [] n e = cc e
no_line [] xs (t ∷ ts) n e = n.0 (cc e)
no_line (a ∷ front) xs [] n e = cc e
no_line (a ∷ front) xs (t ∷ ts) n e = no_line front xs ts n.1 (cc e)

-- records with a field whose texts are equal are equal
pub back_is : (row : Row) → row ≢ [] → read_back row ≡ row
back_is [] n = absurd (n refl)
back_is (x ∷ xs) n = refl

row_in : Option Read → Row
row_in None = []
row_in (Some r) = r.0

pub same_row : (a b : Row) → a ≢ [] → b ≢ [] → row_text default_writer a ≡ row_text default_writer b → a ≡ b
unfolding row_in
same_row a b m n e =
    let both : row_text default_writer a ++ [] ≡ row_text default_writer b ++ [] = ap (λ (t : List ℕ). t ++ []) e in
    sym (back_is a m)
    ∙ sym (ap row_in (read-write a []))
    ∙ ap (λ (t : List ℕ). row_in (next_record default_config st.StartRecord [] [] t)) both
    ∙ ap row_in (read-write b [])
    ∙ back_is b n

-- a whole line in front
pub at_line : (line rest body : List ℕ) → line ≡ body ++ line_feed ∷ [] → line ++ rest ≡ body ++ line_feed ∷ rest
at_line line rest body e = ap (λ (l : List ℕ). l ++ rest) e ∙ append_assoc body (line_feed ∷ []) rest

-- two texts that begin with a whole line each and are equal begin with the same line
pub same_line : (a b xs ys : List ℕ) → IsWholeLine a → IsWholeLine b → a ++ xs ≡ b ++ ys → (a ≡ b) × (xs ≡ ys)
same_line a b xs ys p q e =
    let h = split_lines p.body q.body xs ys p.one q.one (sym (at_line a xs p.body p.parts) ∙ e ∙ at_line b ys q.body q.parts) in
    (p.parts ∙ ap (λ (l : List ℕ). l ++ line_feed ∷ []) h.0 ∙ sym q.parts, h.1)

pub no_whole_line : (a xs torn : List ℕ) → IsWholeLine a → HasNoLineFeed torn → a ++ xs ≡ torn → ⊥
no_whole_line a xs torn p n e = no_line p.body xs torn n (sym (at_line a xs p.body p.parts) ∙ e)

-- a whole line is all of a whole line, and the other way round
pub nothing_behind : (bytes line rest : List ℕ) → bytes ≡ line ++ rest → IsWholeLine line → IsWholeLine bytes → rest ≡ []
nothing_behind bytes line rest e p q = (same_line line bytes rest [] p q (sym e ∙ sym (append-nil bytes))).1

pub alone : (bytes line rest : List ℕ) → bytes ≡ line ++ rest → IsWholeLine line → rest ≡ [] → IsWholeLine bytes
alone bytes line rest e p none = subst IsWholeLine (sym (e ∙ ap (λ (l : List ℕ). line ++ l) none ∙ append-nil line)) p

pub is_none : (xs : List ℕ) (b : Bool) → b ≡ (length xs == 0) → b ≡ true → xs ≡ []
is_none [] b e t = refl
is_none (x ∷ xs) b e t = let none : length (x ∷ xs) ≡ 0 = eqb-true _ 0 (sym e ∙ t) in absurd (omega (arith, none))

pub none_is : (xs : List ℕ) (b : Bool) → b ≡ (length xs == 0) → xs ≡ [] → b ≡ true
none_is xs b e none = e ∙ ap (λ (l : List ℕ). length l == 0) none

-- what is left of records and a text once the first of them are known
pub record Left (done rows : List Row) (rest torn : List ℕ) : Type 0 where
  pub left : List Row
  pub parts : rows ≡ done ++ left
  pub text : rest ≡ rows_text left ++ torn
  pub each : AllByRecursion IsLine left

pub align : (done rows : List Row) (rest torn : List ℕ) → AllByRecursion IsLine done → AllByRecursion IsLine rows → HasNoLineFeed torn →
    rows_text done ++ rest ≡ rows_text rows ++ torn → Left done rows rest torn
unfolding rows_text
align [] rows rest torn p q n e = record { left = rows; parts = refl; text = e; each = q }
align (d ∷ ds) [] rest torn p q n e =
    absurd (no_whole_line _ (rows_text ds ++ rest) torn p.0.line n (sym (append_assoc (row_text default_writer d) (rows_text ds) rest) ∙ e))
align (d ∷ ds) (r ∷ rs) rest torn p q n e =
    let h = same_line (row_text default_writer d) (row_text default_writer r) (rows_text ds ++ rest) (rows_text rs ++ torn) p.0.line q.0.line
    (sym (append_assoc (row_text default_writer d) (rows_text ds) rest) ∙ e ∙ append_assoc (row_text default_writer r) (rows_text rs) torn) in
    let more = align ds rs rest torn p.1 q.1 n h.1 in
    let same = same_row d r p.0.some q.0.some h.0 in
    record {
      left = more.left;
      parts = ap (λ (q : List Row). r ∷ q) more.parts ∙ ap (λ (x : Row). x ∷ (ds ++ more.left)) (sym same);
      text = more.text;
      each = more.each;
    }

-- the first line is one
pub first_line : IsWholeLine (row_text default_writer first_record)
unfolding fields_text is_blank
first_line = record { body = codes "pocsag journal,1"; parts = refl; one = none_found (codes "pocsag journal,1") refl }

-- the first line, by the place of its line feed
pub line_at : (bytes : List ℕ) (k : ℕ) → k < length bytes → ((i : ℕ) → i < k → slice_index bytes i ≢ line_feed) →
    slice_index bytes k ≡ line_feed → IsWholeLine (take (suc k) bytes)
line_at [] k h n e = absurd (omega arith)
line_at (b ∷ bytes) zero h n e = record { body = []; parts = ap (λ (c : ℕ). c ∷ []) e; one = tt }
line_at (b ∷ bytes) (suc k) h n e =
    let more = line_at bytes k (omega arith) (λ i l. n (suc i) (omega arith)) e in
    record { body = b ∷ more.body; parts = ap (λ (l : List ℕ). b ∷ l) more.parts; one = (n zero (omega arith), more.one) }

pub line_found : (bytes : List ℕ) (k : ℕ) → NoneBefore (Passes (is_byte line_feed) bytes) 0 (length bytes) k →
    Passes (is_byte line_feed) bytes k → IsWholeLine (take (k + 1) bytes)
line_found bytes k first here =
    rw add-one
    (line_at bytes k first.high (λ i l e. first.before i (omega arith) l (rw e refl)) (eqb-true (slice_index bytes k) line_feed here))
