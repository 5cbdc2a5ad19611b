use Rattle.pocsag_tree.proofs.Prelude.{length, but_last}
use Rattle.pocsag_tree.proofs.Results.{is_found, is_only, is_fault, is_first, is_short, is_wanting}
use Rattle.pocsag_tree.proofs.reader.read_certificate.Goals as goal

pub returns-clause-found : goal.returns-clause-found
returns-clause-found g c = λ is_known. is_found c.all.result (g.S.Source.held c.args.reader.now) (c.all.ensures.bytes is_known)

pub returns-clause-only : goal.returns-clause-only
returns-clause-only g c = λ is_known. is_only c.all.result (g.S.Source.held c.args.reader.now) (c.all.ensures.bytes is_known)

pub returns-clause-fault : goal.returns-clause-fault
returns-clause-fault g c = λ is_known. is_fault c.all.result (g.S.Source.held c.args.reader.now) (c.all.ensures.bytes is_known)

pub returns-clause-first : goal.returns-clause-first
returns-clause-first g c = λ is_known. is_first c.all.result (g.S.Source.held c.args.reader.now) (c.all.ensures.bytes is_known)

pub returns-clause-in_place : goal.returns-clause-in_place
unfolding but_last
returns-clause-in_place g c = λ is_known is. is_wanting
    (but_last (length (g.S.Source.held c.all.new.source)) (g.S.Source.held c.args.reader.now)) (c.all.ensures.wanting is_known is)

pub returns-clause-room : goal.returns-clause-room
unfolding but_last
returns-clause-room g c = λ is_known is. is_short (but_last (length (g.S.Source.held c.all.new.source)) (g.S.Source.held c.args.reader.now))
    (c.all.ensures.room is_known is)
