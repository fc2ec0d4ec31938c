use Rattle.std.proofs.Common.{◌<◌, ◌∙◌, length, refl, sym, arith}
use Rattle.std.proofs.lemmas.Option.{slice_get_read}
use Rattle.variable_uses.specs.Shared.{IsShared}
use Rattle.variable_uses.proofs.SharedLemmas.{Decides-shared, chosen_push}
use Rattle.variable_uses.proofs.choosing.shared_variables.Goals as goal

pub loop-variable-preserved : goal.loop-variable-preserved
loop-variable-preserved c =
    let T = c.args.indexed.now.events in
    let x = c.loop-variable.variable in
    let sharing = c.in_ok-sharing.sharing.items in
    let s = c.index.result.now in
    let within : c.loop-variable.variable < length c.in_ok-sharing.sharing.items = omega (arith, c.loop-variable-test.true, c.len-variable-end.ensures) in
    let at = slice_get_read sharing (length sharing) x s refl within c.index.ensures in
    let said = Decides-shared T c.args.ones.now c.args.others.now x s (c.in_ok-sharing.ensures.sharing x s at) in
    record {
      len = omega (arith, c.loop-variable.invariant.len, c.in_ok-push.ensures.len);
      chosen =
          chosen_push (IsShared T c.args.ones.now c.args.others.now) c.loop-variable.chosen.items c.push.new.self.items x c.is_shared.result c.loop-variable.invariant.len c.in_ok-push.ensures.items c.loop-variable.invariant.chosen
          (λ h. said.0 (sym c.is_shared.ensures ∙ h), λ shared. c.is_shared.ensures ∙ said.1 shared);
    }
