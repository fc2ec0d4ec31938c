use Rattle.std.proofs.Common.{ℕ, List, count_by, Option, Vec, length, sym, ap, ◌∙◌}
use Rattle.std.specs.List.{slice_get}
use Rattle.std.specs.declared.alloc.Global.{Global}
use Rattle.std.proofs.lemmas.Bool.{true≢false}
use Rattle.race_groups.specs.declared.kinds.Row.{Row}
use Rattle.race_triage.specs.Verdicts.{budget_for, has_tries}
use Rattle.race_triage.proofs.found.found_in.Goals as goal
use Rattle.race_triage.proofs.found.found_in.Goals.{then-effort+in_ok-firsts, else-effort}

pub returns-clause-found : goal.returns-clause-found
returns-clause-found c =
    record {
      tables = c.requires.tables;
      is = record {
        rows = c.requires.groups.rows;
        there = c.requires.groups.there;
        once = c.requires.groups.once;
        shared = record {
          rows = c.args.groups.rows.items;
          are = c.requires.groups.rows;
          there = c.requires.groups.there;
          once = c.requires.groups.once;
          complete = c.requires.groups.complete;
          is = c.budget_of-budget.ensures ∙ ap (λ (rows : List Row). budget_for (count_by has_tries rows)) c.as_slice.ensures.value;
        };
        leasts_len = c.requires.leasts.len;
        leasts = c.requires.leasts.are;
        firsts_len = λ told. elim c.if-effort.branch [
          | then-effort+in_ok-firsts w ↦ ap (λ (v : Vec (Option (ℕ × ℕ)) Global). length v.items) w.firsts-is ∙ w.in_ok-firsts.ensures.len
          | else-effort w ↦ absurd (true≢false (sym told ∙ w.if-effort.false))
        ];
        firsts = λ told at row first here there. elim c.if-effort.branch [
          | then-effort+in_ok-firsts w ↦
              w.in_ok-firsts.ensures.firsts at row first here (ap (λ (v : Vec (Option (ℕ × ℕ)) Global). slice_get v.items at) (sym w.firsts-is) ∙ there)
          | else-effort w ↦ absurd (true≢false (sym told ∙ w.if-effort.false))
        ];
      };
    }
