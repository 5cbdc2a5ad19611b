use Rattle.pocsag_open.proofs.Prelude.{◌≡◌, ◌≢◌, [], ◌∷◌, ◌++◌, arith, rules, subst, length_push, line_feed, IsSeen}
use Rattle.pocsag_journal.proofs.Prefixes.{all_more}
use Rattle.pocsag_open.specs.declared.lines.LineRead.TheVariants as found
use Rattle.pocsag_open.proofs.SeenLines.{byte_passes, seen_all, seen_kept, seen_long, seen_more}
use Rattle.pocsag_open.proofs.lines.Lines.read_line.Goals as goal

pub loop-seen-preserved : goal.loop-seen-preserved
loop-seen-preserved g c = record {
  unfailed = search rules;
  short = search rules;
  seen = λ is_known.
      let was = c.loop-seen.invariant.seen is_known in
      let next = rw c.in-Some.is at c.in-Ok.ensures.next is_known in
      let kept = rw c.next_byte.ensures.kept at c.in_ok-found-in-Some.ensures.kept in
      let other : c.in-Some.byte ≢ line_feed = let t = c.in-Some.byte-test in search (rules, t) in (
        was.0 ++ c.in-Some.byte ∷ [],
        all_more (λ b. b ≢ line_feed) was.0 c.in-Some.byte was.1 other,
        seen_more _ _ _ _ _ _ was.2 kept,
        rw c.keep.ensures.ahead (byte_passes _ _ _ _ _ was.3 next),
        omega (arith, length_push was.0 c.in-Some.byte, was.4),
      );
}

pub returns-in-None-clause-found : goal.returns-in-None-clause-found
returns-in-None-clause-found g c = λ is_known.
    let was = c.loop-seen.invariant.seen is_known in
    let next = rw c.in-None.is at c.in-Ok.ensures.next is_known in
    rw c.next_byte.ensures.kept (seen_all c.loop-seen.found _ was.0 _ _ _ was.1 was.2 was.3 next.0 next.1)

pub returns-in-Some-eq10-clause-found : goal.returns-in-Some-eq10-clause-found
returns-in-Some-eq10-clause-found g c = λ is_known.
    let was = c.loop-seen.invariant.seen is_known in
    let next = rw c.in-Some-eq10.is at c.in-Ok.ensures.next is_known in
    let feed : c.in-Some-eq10.field-0 ≡ line_feed = let t = c.in-Some-eq10.field-0-test in search (rules, t) in
    let long : c.loop-seen.found ≡ found.TooLong = let e = c.eq.ensures in let t = c.if-eq.true in search (rules, e, t) in
    let is = subst (λ f. IsSeen f was.0 c.loop-seen.self.line.items) long was.2 in
    seen_long _ was.0 _ _ _ _ was.1 is was.3 next feed

pub returns-in-Some-eq10-2-clause-found : goal.returns-in-Some-eq10-2-clause-found
returns-in-Some-eq10-2-clause-found g c = λ is_known.
    let was = c.loop-seen.invariant.seen is_known in
    let next = rw c.in-Some-eq10.is at c.in-Ok.ensures.next is_known in
    let feed : c.in-Some-eq10.field-0 ≡ line_feed = let t = c.in-Some-eq10.field-0-test in search (rules, t) in
    let short : c.loop-seen.found ≢ found.TooLong = let e = c.eq.ensures in let t = c.if-eq.false in search (rules, e, t) in
    rw c.next_byte.ensures.kept (seen_kept c.loop-seen.found _ was.0 _ _ _ _ short was.1 was.2 was.3 next feed)
