use Rattle.pocsag_show.proofs.Prelude.{sym, subst, kinds_read, EmitsAll, view_text, View}
use Rattle.pocsag_show.proofs.views.emit_view.Goals as goal

pub returns-in-Grid : goal.returns-in-Grid
returns-in-Grid g c = λ X j.
    subst (λ (view : View). EmitsAll g.S.Sink c.emit_grid.result c.args.sink.now c.emit_grid.new.sink (view_text view (kinds_read j.reading) j.pages))
    (sym c.in-Grid.is) (c.emit_grid.ensures X j)

pub returns-in-Places : goal.returns-in-Places
returns-in-Places g c = λ X j.
    subst (λ (view : View). EmitsAll g.S.Sink c.emit_listing.result c.args.sink.now c.emit_listing.new.sink (view_text view (kinds_read j.reading) j.pages))
    (sym c.in-Places.is) (c.emit_listing.ensures X j)

pub returns-in-Drawing : goal.returns-in-Drawing
returns-in-Drawing g c = λ X j.
    subst (λ (view : View). EmitsAll g.S.Sink c.emit_drawing.result c.args.sink.now c.emit_drawing.new.sink (view_text view (kinds_read j.reading) j.pages))
    (sym c.in-Drawing.is) (c.emit_drawing.ensures X j)
