use Rattle.std.proofs.Common.{ap}
use Rattle.race_page.specs.Pages.{Made}
use Rattle.race_page.proofs.PieceLemmas.{drawn_of}
use Rattle.race_page.proofs.page.Page.drawn_row.Goals as goal

pub add_drawn-requires-clause-drawn : goal.add_drawn-requires-clause-drawn
add_drawn-requires-clause-drawn c =
    let made = c.in_ok-figure_text.ensures.ok in
    drawn_of c.args.self.now.trace c.self.inside.analysis.now c.args.events.now c.args.shown.first c.args.shown.second _ _ made.0 _ c.new-figure.ensures.items made.1
    c.as_slice.ensures.value made.2 (ap (λ (m : Made). m.trace) c.self.view_is) c.requires.reordering c.requires.shows
