use Rattle.pocsag_shell.proofs.Prelude.{◌≡◌, ap, ◌∙◌, List, ℕ, ◌++◌, sym, true, codes, append_cancel_right}
use Rattle.pocsag_shell.proofs.StagedFiles.{kept_of, lock_kept, lock_made, made_of, not_kept, not_made, text_is, two_endings}
use Rattle.pocsag_shell.proofs.left_over.left_over.Goals as goal

pub returns-then-ends_with-clause-made : goal.returns-then-ends_with-clause-made
returns-then-ends_with-clause-made c =
    let is = c.if-ends_with.ensures.cases in
    λ number. (λ e. cc (e), λ made. absurd (lock_made c.args.file.now (record { place = _; named = is.1.1 }) number made))

pub returns-then-ends_with-clause-kept : goal.returns-then-ends_with-clause-kept
returns-then-ends_with-clause-kept c =
    let is = c.if-ends_with.ensures.cases in
    λ number. (λ e. cc (e), λ kept. absurd (lock_kept (c.args.name.now ++ codes ".pocsag") c.args.file.now (record { place = _; named = is.1.1 }) number kept))

pub returns-then-ends_with-2-clause-made : goal.returns-then-ends_with-2-clause-made
returns-then-ends_with-2-clause-made c =
    made_of c.in-Some.front.now _ c.args.file.now c.in-Some.number c.in-Some.ensures.named c.if-ends_with-2.ensures.cases.1.1

pub returns-then-ends_with-2-clause-kept : goal.returns-then-ends_with-2-clause-kept
returns-then-ends_with-2-clause-kept c =
    λ number. (
      λ e. cc (e),
      λ kept. absurd (two_endings c.args.file.now c.in-Some.front.now (c.args.name.now ++ codes ".pocsag") c.in-Some.number number c.in-Some.ensures.named kept),
    )

pub returns-in-Some-clause-made : goal.returns-in-Some-clause-made
returns-in-Some-clause-made c =
    λ number. (
      λ e. cc (e),
      λ made. absurd (not_made c.in-Some.front.now c.args.file.now c.in-Some.number c.in-Some.ensures.named c.if-ends_with-2.ensures.cases number made),
    )

pub returns-in-Some-clause-kept : goal.returns-in-Some-clause-kept
returns-in-Some-clause-kept c =
    λ number. (
      λ e. cc (e),
      λ kept. absurd (two_endings c.args.file.now c.in-Some.front.now (c.args.name.now ++ codes ".pocsag") c.in-Some.number number c.in-Some.ensures.named kept),
    )

pub returns-in_default-strip_suffix-clause-kept : goal.returns-in_default-strip_suffix-clause-kept
returns-in_default-strip_suffix-clause-kept c =
    λ number. (
      λ e. cc (e),
      λ kept. absurd (not_kept c.args.name.now c.in-Some-process_of.front.now c.args.file.now c.in-Some-process_of.number c.in-Some-process_of.ensures.named
          (c.in_default-strip_suffix.ensures.cases c.args.name.now) number kept),
    )

pub returns-then-eq-clause-kept : goal.returns-then-eq-clause-kept
returns-then-eq-clause-kept c =
    let last = c.in-Some-strip_suffix.ensures.cases in
    let parts : c.in-Some-process_of.front.now ≡ c.in-Some-strip_suffix.place.now ++ codes ".pocsag" =
    last.1.1 ∙ ap (λ (v : List ℕ). v ++ codes ".pocsag") (sym last.2) in
    kept_of c.args.name.now c.in-Some-process_of.front.now c.in-Some-strip_suffix.place.now c.args.file.now c.in-Some-process_of.number
    c.in-Some-process_of.ensures.named parts ((text_is c.eq.result c.in-Some-strip_suffix.place.now c.args.name.now c.eq.ensures).0 c.if-eq.true)

pub returns-clause-kept : goal.returns-clause-kept
returns-clause-kept c =
    let last = c.in-Some-strip_suffix.ensures.cases in
    let parts : c.in-Some-process_of.front.now ≡ c.in-Some-strip_suffix.place.now ++ codes ".pocsag" =
    last.1.1 ∙ ap (λ (v : List ℕ). v ++ codes ".pocsag") (sym last.2) in
    λ number. (
      λ e. cc (e),
      λ kept. absurd (not_kept c.args.name.now c.in-Some-process_of.front.now c.args.file.now c.in-Some-process_of.number c.in-Some-process_of.ensures.named
          (λ e.
          let same : c.in-Some-strip_suffix.place.now ≡ c.args.name.now = append_cancel_right c.in-Some-strip_suffix.place.now c.args.name.now (codes ".pocsag") (sym parts ∙ e) in
          let told : c.eq.result ≡ true = (text_is c.eq.result c.in-Some-strip_suffix.place.now c.args.name.now c.eq.ensures).1 same in
          cc (told, c.if-eq.false))
          number kept),
    )
