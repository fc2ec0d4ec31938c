use Rattle.std.proofs.Common.{◌≡◌, ◌++◌, ℕ, List, Some, sym, subst}
use Rattle.std.specs.Str.Parse.{AllDigits}
use Rattle.memchr.specs.Find.{FindsNeedle}
use Rattle.window.specs.Moving.{HasNoDigit, Marked, event_mark}
use Rattle.window.proofs.MovingLemmas.{split_twice, written_more}
use Rattle.window.proofs.cutting.Window.append_first.Goals as goal

pub returns-clause-some : goal.returns-clause-some
returns-clause-some c =
    let one = c.split_at.ensures in
    let two = c.split_at-2.ensures in
    let m : Marked = record { front = c.split_at.result.0.now; digits = c.split_at-2.result.0.now } in
    let whole : c.args.text.now ≡ m.front ++ (m.digits ++ c.split_at-2.result.1.now) =
    split_twice c.args.text.now m.front c.split_at.result.1.now m.digits c.split_at-2.result.1.now _ _ one.front one.back two.front two.back in (
      m,
      record {
        place = c.in-Some.at;
        ends = one.front_len;
        first = subst (λ (t : List ℕ). FindsNeedle t event_mark 0 (Some c.in-Some.at)) whole c.in-Some.ensures;
        digits = subst (AllDigits 10) (sym two.front) c.digits_len.ensures.digits;
        all = subst HasNoDigit (sym two.back) c.digits_len.ensures.all;
      },
      whole,
      written_more c.args.out.now.items m.front _ _ _ c.in_ok-extend_from_slice.ensures.items c.in_ok-append_digits.ensures,
    )
