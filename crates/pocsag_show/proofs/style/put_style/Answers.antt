use Rattle.std.specs.Fmt.{digits}
use Rattle.pocsag_show.specs.Style.{style, light_style, dark_style, hue_rule, hue_rules}
use Rattle.pocsag_show.proofs.style.put_style.Goals as goal

pub returns : goal.returns
unfolding digits style light_style dark_style hue_rule hue_rules
returns c = c.put.ensures
