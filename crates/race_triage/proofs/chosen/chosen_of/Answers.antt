use Rattle.std.proofs.Common.{◌≡◌, ◌++◌, [], Bool, true, false, List, Some, None, map, filter, cond, subst, refl, sym, ap, ◌∙◌}
use Rattle.race_triage.specs.Chosen.{is_of, known_places, AreConsidered}
use Rattle.race_triage.specs.declared.chosen.Part.TheVariants.{Races, Open, Never}
use Rattle.race_triage.specs.declared.verdicts.Verdict.{Verdict}
use Rattle.race_triage.proofs.ChosenLemmas.{some_places, AreChosen-from, Considered-append}
use Rattle.race_triage.proofs.chosen.chosen_of.Goals as goal

filter-where : (p : Verdict → Bool) (b : Bool) (vs : List Verdict) → filter p (cond b vs []) ≡ cond b (filter p vs) []
filter-where p true vs = refl
filter-where p false vs = refl

pub returns : goal.returns
returns c =
    let r = c.args.indexed.now in
    let known = known_places c.args.known.now in
    let only = map (λ t. t.now) c.args.filters.only.now in
    let hide = map (λ t. t.now) c.args.filters.hide.now in
    let vs = c.args.verdicts.now.verdicts.items in
    let all : c.as_slice-all.result.now ≡ vs = c.as_slice-all.ensures.value in
    let never : filter (is_of Never) c.never_of.result.now ≡ cond c.args.apart (filter (is_of Never) vs) [] =
    ap (λ (l : List Verdict). filter (is_of Never) l) (c.never_of.ensures ∙ ap (λ (l : List Verdict). cond c.args.apart l []) all) ∙ filter-where (is_of Never) c.args.apart vs in
    let first = subst (λ (l : List Verdict). AreConsidered r known only hide (filter (is_of Races) l) c.nothing-chosen.result c.choose.new.self) all c.in_ok-choose.ensures in
    let second = subst (λ (l : List Verdict). AreConsidered r known only hide (filter (is_of Open) l) c.choose.new.self c.choose-2.new.self) all c.in_ok-choose-2.ensures in
    let third = subst (λ (l : List Verdict). AreConsidered r known only hide l c.choose-2.new.self c.choose-3.new.self) never c.in_ok-choose-3.ensures in
    let both = Considered-append r known only hide (filter (is_of Races) vs) (filter (is_of Open) vs) _ _ _ first second in
    let whole = Considered-append r known only hide (filter (is_of Races) vs ++ filter (is_of Open) vs) (cond c.args.apart (filter (is_of Never) vs) []) _ _ _ both third in
    AreChosen-from r known only hide c.args.apart c.is_any.result vs c.nothing-chosen.result c.choose-3.new.self whole c.nothing-chosen.ensures.verdicts c.nothing-chosen.ensures.races
    (c.nothing-chosen.ensures.known ∙ ap (λ b. cond b (Some 0) None) (c.is_some.ensures ∙ sym (some_places c.args.known.now)))
    c.nothing-chosen.ensures.hidden c.is_any.ensures
