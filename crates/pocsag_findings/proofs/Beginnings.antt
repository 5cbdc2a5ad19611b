-- How formatted texts begin.
use Rattle.pocsag_findings.proofs.Prelude.{◌≡◌, ℕ, Bool, true, cond, nat_eq, List, ◌++◌, ◌∙◌, append_assoc, subst, Option, Some, IfSome, Result, Ok, Err, IfOk, codes, End, BeginsWith, drawing_head, end_name, end_words, verdict_members, verdict_words}
use Rattle.std.specs.Fmt.{decimal}

-- what holds of the text that is written holds of the text that there is
module _ {S E : Type 0} (bytes : S → List ℕ) (r : Result S E) (output : Option (List ℕ)) (writes : IfOk r (λ s. IfSome output (λ bs. bytes s ≡ bs))) where
  written : (text : List ℕ) → output ≡ Some text → (Q : List ℕ → Type 0) → ((told : List ℕ) → told ≡ text → Q told) → IfOk r (λ s. Q (bytes s))
  written text e Q f = by r (subst (λ o. IfOk r (λ s. IfSome o (λ bs. bytes s ≡ bs))) e writes)
    where
      by : (q : Result S E) → IfOk q (λ s. bytes s ≡ text) → IfOk q (λ s. Q (bytes s))
      by (Ok s) h = f (bytes s) h
      by (Err e) h = h

  pub words_begin : (batches : ℕ) (noun end_told held : List ℕ) (end : End) →
      noun ≡ cond (nat_eq batches 1) (codes "batch") (codes "batches") → end_told ≡ end_words end →
      output ≡ Some (codes "at least " ++ (decimal batches ++ (codes " " ++ (noun ++ (codes ", " ++ (end_told ++ (codes ": " ++ held))))))) →
      IfOk r (λ s. BeginsWith (verdict_words true end batches) (bytes s))
  words_begin batches noun end_told held end is_noun is_end e =
      written _ (rw (is_noun, is_end) at e) (λ text. BeginsWith (verdict_words true end batches) text)
      (λ told is. record { rest = codes ": " ++ held; whole = simp append_assoc is })

  pub members_begin : (is_shown : Bool) (batches : ℕ) (end_told rest : List ℕ) (end : End) → end_told ≡ end_name end →
      output ≡ Some (codes "{\"shown\":" ++ (cond is_shown (codes "true") (codes "false")
      ++ (codes ",\"end\":\"" ++ (end_told ++ (codes "\",\"batches\":" ++ (decimal batches ++ (codes "," ++ rest))))))) →
      IfOk r (λ s. BeginsWith (verdict_members is_shown end batches) (bytes s))
  members_begin is_shown batches end_told rest end is_end e =
      written _ (rw is_end at e) (λ text. BeginsWith (verdict_members is_shown end batches) text)
      (λ told is. record { rest = rest; whole = simp append_assoc is })

-- what begins with the head and its title begins so with more behind it
pub title_begins : (height : ℕ) (heading start rest text : List ℕ) →
    start ≡ codes "<svg xmlns='http://www.w3.org/2000/svg' version='1.1' class='pocsag-why' role='img' width='540' height='"
    ++ (decimal height ++ (codes "' viewBox='0 0 540 " ++ (decimal height ++ (codes "'>\n<title>" ++ heading)))) →
    text ≡ start ++ rest → (x : ℕ) × BeginsWith (drawing_head x ++ heading) text
title_begins height heading start rest text e whole =
    let f = rw e at whole in
    (height, record { rest = rest; whole = simp append_assoc (simp append_assoc at f) })

title_parts : (head words more rest text : List ℕ) → text ≡ (head ++ (words ++ more)) ++ rest → text ≡ (head ++ words) ++ (more ++ rest)
title_parts head words more rest text e = simp append_assoc (simp append_assoc at e)

-- and so do the words at the beginning of the title
pub title_words : {S E : Type 0} (bytes : S → List ℕ) (r : Result S E) (words heading : List ℕ) → BeginsWith words heading →
    IfOk r (λ s. (x : ℕ) × BeginsWith (drawing_head x ++ heading) (bytes s)) → IfOk r (λ s. (x : ℕ) × BeginsWith (drawing_head x ++ words) (bytes s))
title_words bytes (Ok s) words heading w h = (
  h.0,
  record {
    rest = w.rest ++ h.1.rest;
    whole =
        title_parts (drawing_head h.0) words w.rest h.1.rest (bytes s)
        (subst (λ (v : List ℕ). bytes s ≡ (drawing_head h.0 ++ v) ++ h.1.rest) w.whole h.1.whole);
  },
)
title_words bytes (Err e) words heading w h = h

-- and so does a text with more behind it
pub begins_more : (words start rest text : List ℕ) → BeginsWith words start → text ≡ start ++ rest → BeginsWith words text
begins_more words start rest text b e =
    record { rest = b.rest ++ rest; whole = rw (b.whole) at e ∙ append_assoc words b.rest rest }
