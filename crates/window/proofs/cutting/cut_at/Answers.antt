use Rattle.std.proofs.Common.{List, ℕ, length, ap, ap₂, ◌∙◌, subst, refl, arith}
use Rattle.rapid_text.specs.Recording.{Recording}
use Rattle.window.specs.Cuts.{IsNewName, window_text_at}
use Rattle.window.proofs.cutting.cut_at.Goals as goal

pub text_at-requires-clause-named : goal.text_at-requires-clause-named
text_at-requires-clause-named c = rw (c.raw-3.ensures.same, c.as_slice-2.ensures.value) (c.in_ok-to.ensures.named c.as_slice.result.now)

pub returns-clause-ok : goal.returns-clause-ok
returns-clause-ok c = (
  omega (arith, c.if-from-len.false, c.len.ensures.len, ap (λ (s : Recording). length s.events) c.raw.ensures.same),
  record {
    cut = record {
      name = c.in_ok-own.own.items;
      end = c.in_ok-to.to;
      named = subst (λ (s : Recording). IsNewName s c.in_ok-own.own.items) c.raw-2.ensures.same c.in_ok-own.ensures.ok;
      ends = c.in_ok-to.ensures.end;
      is =
          c.in_ok-text.ensures
          ∙ ap₂ (λ (s : Recording) (n : List ℕ). window_text_at s n c.args.number c.args.from c.in_ok-to.to) c.raw-3.ensures.same c.as_slice.ensures.value;
    };
    from_is = refl;
    to_is = omega (arith, c.from.ensures);
    prologue_is = omega (arith, c.len-2.ensures, c.in_ok-to.ensures.size);
  },
)
