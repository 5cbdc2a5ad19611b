-- What a writer takes of a text that is written as it is made.
use Rattle.pocsag_findings.proofs.Prelude.{◌≡◌, ℕ, ◌+◌, ◌-◌, ◌<◌, Bool, true, false, List, [], ◌∷◌, ◌++◌, length, take, OnOk, refl, sym, ap, ◌∙◌, subst, arith, append_assoc, length-append, take-append-le, End, BeginsWith, GivesVerdict, drawing_head, verdict_members, verdict_words, Adds, HasAdded, TookLessOfVerdict, TookPartOfVerdict, TookVerdict}
use Rattle.std.proofs.Common.{Result, Ok, Err, append-nil}
use Rattle.std.proofs.Math.Seq.{take-append-add, take-length}
use Rattle.pocsag_words.specs.Devices.{HasFailed, TookPrefix}
use Rattle.pocsag_words.specs.declared.device.Sink.{Ghosts as Writer}
use Rattle.pocsag_findings.proofs.Beginnings.{begins_more}
use Rattle.pocsag_findings.specs.declared.fault.ExplanationFault.{ExplanationFault}
use Rattle.pocsag_findings.specs.declared.fault.ExplanationFault.TheVariants as fault
use Rattle.pocsag_findings.specs.declared.format.Format.{Format}
use Rattle.pocsag_findings.specs.declared.format.Format.TheVariants as format

joined : (start now after piece more : List ℕ) → now ≡ start ++ piece → after ≡ now ++ more → after ≡ start ++ (piece ++ more)
joined start now after piece more e f = f ∙ (ap (λ (l : List ℕ). l ++ more) e ∙ append_assoc start piece more)

module _ {S : Type 0} (Out : Writer S) where
  -- some more, and then a part of a text
  pub added_on : (start now after : S) (u : Unit {0}) → HasAdded Out start now → Adds Out (Ok u) now after → HasAdded Out start after
  added_on start now after u h a = record {
    piece = h.piece ++ a.piece;
    taken = λ k. joined (Out.taken start) (Out.taken now) (Out.taken after) h.piece a.piece (h.taken k) (a.taken k);
    failures = a.succeeded ∙ h.failures;
  }

  -- the writer failed within a piece
  pub adds_failed : (now after : S) (due : List ℕ) → (Out.is_known → TookPrefix (Out.taken now) (Out.taken after) due)
      → HasFailed (Out.failures now) (Out.failures after) → Adds Out (Err fault.WriteFault) now after
  adds_failed now after due took failed =
      let n : ℕ = length (Out.taken after) - length (Out.taken now) in
      record {
        piece = take n due;
        taken = λ k.
            let some = took k in
            let all : length (Out.taken now) + n ≡ length (Out.taken after) = omega (arith, some.0) in
            sym some.1 ∙ ap (λ (k : ℕ). take k (Out.taken now ++ due)) (sym all) ∙ take-append-add (Out.taken now) due n;
        succeeded = tt;
        failed = λ is. failed;
      }

  -- some more, and then what adds
  pub adds_on : (start now after : S) (result : Result Unit ExplanationFault) → HasAdded Out start now → Adds Out result now after
      → Adds Out result start after
  adds_on start now after result h a = record {
    piece = h.piece ++ a.piece;
    taken = λ k. joined (Out.taken start) (Out.taken now) (Out.taken after) h.piece a.piece (h.taken k) (a.taken k);
    succeeded = as_before result a.succeeded;
    failed = λ is. subst (λ (n : ℕ). HasFailed n (Out.failures after)) h.failures (a.failed is);
  }
    where
      as_before : (r : Result Unit ExplanationFault) → OnOk r (Out.failures after ≡ Out.failures now) → OnOk r (Out.failures after ≡ Out.failures start)
      as_before (Ok u) e = e ∙ h.failures
      as_before (Err e) u = u

-- a text that gives the verdict with more behind it gives it too
pub gives_more : (f : Format) (is_shown : Bool) (end : End) (batches : ℕ) (text rest : List ℕ) → GivesVerdict f is_shown end batches text
    → GivesVerdict f is_shown end batches (text ++ rest)
gives_more (format.Lines depth) is_shown end batches text rest b = begins_more (verdict_words is_shown end batches) text rest (text ++ rest) b refl
gives_more (format.Json depth) is_shown end batches text rest b = begins_more (verdict_members is_shown end batches) text rest (text ++ rest) b refl
gives_more format.Drawing is_shown end batches text rest b =
    (b.0, begins_more (drawing_head b.0 ++ verdict_words is_shown end batches) text rest (text ++ rest) b.1 refl)

-- a shortest text that gives the verdict
alone : (words : List ℕ) → BeginsWith words words
alone words = record { rest = []; whole = sym (append-nil words) }

verdict_some : (f : Format) (is_shown : Bool) (end : End) (batches : ℕ) →
    (text : List ℕ) × GivesVerdict f is_shown end batches text × (0 < length text)
verdict_some (format.Lines depth) true end batches = (verdict_words true end batches, alone (verdict_words true end batches), omega arith)
verdict_some (format.Lines depth) false end batches = (verdict_words false end batches, alone (verdict_words false end batches), omega arith)
verdict_some (format.Json depth) is_shown end batches =
    (verdict_members is_shown end batches, alone (verdict_members is_shown end batches), omega arith)
verdict_some format.Drawing is_shown end batches =
    let words : List ℕ = drawing_head 0 ++ verdict_words is_shown end batches in
    (words, (0, alone words), omega arith)

all_taken : (before text rest : List ℕ) → TookPrefix before (before ++ text) (text ++ rest)
all_taken before text rest = (
  omega (arith, length-append before text),
  ap (take (length (before ++ text))) (sym (append_assoc before text rest))
      ∙ (take-append-le (length (before ++ text)) (before ++ text) rest (omega arith) ∙ take-length (before ++ text)),
)

module _ {S : Type 0} (Out : Writer S) (f : Format) (is_shown : Bool) (end : End) (batches : ℕ) (before : S) where
  -- nothing was taken of it
  pub none_of_verdict : TookLessOfVerdict Out f is_shown end batches before before
  none_of_verdict =
      let some = verdict_some f is_shown end batches in
      let b = Out.taken before in
      record {
        text = some.0;
        told = some.1;
        taken = λ k. (omega arith, take-append-le (length b) b some.0 (omega arith) ∙ take-length b);
        less = λ k. let n = some.2 in omega arith;
      }

  module _ (first : List ℕ) (middle after : S) (gives : GivesVerdict f is_shown end batches first)
      (mid : Out.is_known → Out.taken middle ≡ Out.taken before ++ first) (piece : List ℕ)
      (more : Out.is_known → Out.taken after ≡ Out.taken middle ++ piece) where
    whole : Out.is_known → Out.taken after ≡ Out.taken before ++ (first ++ piece)
    whole k = joined (Out.taken before) (Out.taken middle) (Out.taken after) first piece (mid k) (more k)

    all : GivesVerdict f is_shown end batches (first ++ piece)
    all = gives_more f is_shown end batches first piece gives

    pub verdict_taken : TookVerdict Out f is_shown end batches before after
    verdict_taken = record { text = first ++ piece; told = all; taken = whole }

    pub part_of_verdict : TookPartOfVerdict Out f is_shown end batches before after
    part_of_verdict = record {
      text = (first ++ piece) ++ [];
      told = gives_more f is_shown end batches (first ++ piece) [] all;
      taken = λ k. rw (whole k) (all_taken (Out.taken before) (first ++ piece) []);
    }

    pub less_of_verdict : TookLessOfVerdict Out f is_shown end batches before after
    less_of_verdict = record {
      text = (first ++ piece) ++ 0 ∷ [];
      told = gives_more f is_shown end batches (first ++ piece) (0 ∷ []) all;
      taken = λ k. rw (whole k) (all_taken (Out.taken before) (first ++ piece) (0 ∷ []));
      less = λ k.
          omega (arith, ap length (whole k), length-append (Out.taken before) (first ++ piece), length-append (first ++ piece) (0 ∷ []));
    }
