use Rattle.std.proofs.Common.{◌≡◌, ◌∙◌, List, length, refl, ap, subst, inr, arith}
use Rattle.std.specs.List.{slice_get}
use Rattle.must_order.proofs.JoinLemmas.{slice_get-last}
use Rattle.race_groups.specs.least_pairs.Making.{IsBunchOf}
use Rattle.race_groups.specs.declared.least_pairs.lanes.Bunch.{Bunch}
use Rattle.race_groups.proofs.least_pairs.lanes.bunch_number.Goals as goal

pub returns-then-is_class-clause-found : goal.returns-then-is_class-clause-found
returns-then-is_class-clause-found c =
    let here = c.is_class.ensures c.if-is_class.true in
    subst (λ (xs : List Bunch). IsBunchOf xs c.in-Some.number.now c.args.class) c.as_slice.ensures.value here

pub returns-clause-found : goal.returns-clause-found
returns-clause-found c =
    let xs = c.args.bunches.now.items in
    let bunch : Bunch = record { class = c.args.class; events = c.new.result } in
    let number : c.len-number.result ≡ length xs = omega (arith, c.len-number.ensures, c.args.bunches.now.ok.0) in
    record {
      bunch = bunch;
      at = ap (λ n. slice_get c.push.new.self.items n) number ∙ ap (λ ys. slice_get ys (length xs)) c.in_ok-push.ensures.items ∙ slice_get-last xs bunch;
      class_is = refl;
    }

pub returns-clause-grown : goal.returns-clause-grown
returns-clause-grown c =
    inr (record {
      bunch = record { class = c.args.class; events = c.new.result };
      class_is = refl;
      events = c.new.ensures.items;
      added = c.in_ok-push.ensures.items;
    })
