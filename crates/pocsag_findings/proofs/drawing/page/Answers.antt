use Rattle.pocsag_findings.proofs.Prelude.{string_bytes}
use Rattle.pocsag_findings.proofs.Beginnings.{title_begins}
use Rattle.pocsag_findings.proofs.drawing.page.Goals as goal

pub returns : goal.returns
returns c =
    title_begins _ c.args.heading.now (string_bytes c.in_ok-text.text) _ (string_bytes c.push_str.new.self) c.in_ok-text.ensures.ok
    c.in_ok-push_str.ensures.bytes
