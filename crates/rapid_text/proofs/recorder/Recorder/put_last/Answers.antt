use Rattle.std.proofs.Common.{◌≡◌, ◌++◌, map, length, ap, ◌∙◌, arith}
use Rattle.rapid_text.specs.Layout.{part_at}
use Rattle.rapid_text.specs.Recorded.{recorded}
use Rattle.rapid_text.specs.declared.raw_trace.Span.{Span}
use Rattle.rapid_text.proofs.Growing.{with_last}
use Rattle.rapid_text.proofs.Places.{parts_placed}
use Rattle.rapid_text.proofs.recorder.Recorder.put_last.Goals as goal

pub returns-clause-ok : goal.returns-clause-ok
returns-clause-ok c =
    let old = c.args.self.now in
    let bytes = old.locations.items in
    let span : Span = record { start = c.len-start.result; end = c.len-end.result } in
    let starts : c.len-start.result ≡ length bytes = omega (arith, c.len-start.ensures, old.locations.ok.0) in
    let grown : c.extend_from_slice.new.self.items ≡ bytes ++ c.args.location.now = c.in_ok-extend_from_slice.ensures.items in
    let ends : c.len-end.result ≡ length (bytes ++ c.args.location.now) = omega (arith, c.len-end.ensures, c.extend_from_slice.new.self.ok.0, ap length grown) in
    with_last (recorded old) c.push-2.new.self.items (map (part_at c.extend_from_slice.new.self.items) c.push.new.self.items) c.args.event c.args.location.now
    c.in_ok-push-2.ensures.items
    (ap (λ text. map (part_at text) c.push.new.self.items) grown
    ∙ ap (map (part_at (bytes ++ c.args.location.now))) c.in_ok-push.ensures.items
    ∙ parts_placed bytes c.args.location.now old.spans.items span c.requires starts ends)
