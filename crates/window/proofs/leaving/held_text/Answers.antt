use Rattle.std.proofs.Common.{◌++◌, [], List, ℕ, ap, ap₂, ◌∙◌, length}
use Rattle.rapid_text.specs.Canonical.{events_text}
use Rattle.rapid_text.specs.Recording.{Recording}
use Rattle.rapid_text.specs.declared.event.Event.{Event}
use Rattle.window.specs.Cuts.{with_name}
use Rattle.window.specs.Streams.{read_name}
use Rattle.window.proofs.leaving.held_text.Goals as goal

pub returns : goal.returns
returns c =
    let r = c.args.trace.now in (
      record {
        events = c.in_ok-events.events.items;
        named = c.in_ok-events.ensures.named;
        takes = c.in_ok-events.ensures.takes;
        holds = c.in_ok-events.ensures.holds;
        is =
            c.in_ok-append_prologue.ensures
            ∙ ap (λ (l : List ℕ). l ++ events_text (with_name c.raw.result.now read_name) c.as_slice-all.result.now []) c.new-text.ensures.items
            ∙ ap₂ (λ (s : Recording) (es : List Event). events_text (with_name s read_name) es []) c.raw.ensures.same c.as_slice-all.ensures.value;
      },
      ap (λ (es : List Event). length es) c.as_slice-all.ensures.value,
    )
