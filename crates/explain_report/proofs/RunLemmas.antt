-- The runs that are left, and their text: with the next one, and at the end.
use Rattle.std.proofs.Common.{◌≡◌, ◌≤◌, ℕ, ◌+◌, List, [], ◌∷◌, ◌++◌, drop, length, Option, Some, append_assoc, append-nil, refl, sym, ap, ◌∙◌}
use Rattle.std.proofs.lemmas.List.{drop_all}
use Rattle.rapid_text.specs.Recording.{Recording}
use Rattle.rapid_text.specs.declared.event.Event.{Event}
use Rattle.explain_report.specs.Runs.{ended, ended_before, next_run, runs_after, thread_of}
use Rattle.explain_report.specs.RunTexts.{each_run_text, run_text, tallied, tallies_after}
use Rattle.explain_report.specs.declared.folded.Tally.{Tally}
use Rattle.explain_report.specs.declared.runs.Run.{Run}

module _ (r : Recording) (es : List ℕ) (ws : List (Option ℕ)) where
  each_run-first : (n : ℕ) (run : Run) (runs : List Run) → run_text r es ws (n + 1) run ++ each_run_text r es ws (n + 1) runs ≡ each_run_text r es ws n (run ∷ runs)
  unfolding each_run_text
  each_run-first n run runs = refl

  each_run-none : (n : ℕ) → each_run_text r es ws n [] ≡ []
  unfolding each_run_text
  each_run-none n = refl

  -- with the next run appended, the text of those that are left completes the same text
  pub each_run-more :
      (runs : List Run) (k : ℕ) (run : Run) (now new all : List ℕ) → drop k runs ≡ run ∷ drop (k + 1) runs → new ≡ now ++ run_text r es ws (k + 1) run
      → now ++ each_run_text r es ws k (drop k runs) ≡ all → new ++ each_run_text r es ws (k + 1) (drop (k + 1) runs) ≡ all
  each_run-more runs k run now new all cut last before =
      ap (λ (t : List ℕ). t ++ each_run_text r es ws (k + 1) (drop (k + 1) runs)) last
      ∙ append_assoc now (run_text r es ws (k + 1) run) (each_run_text r es ws (k + 1) (drop (k + 1) runs))
      ∙ ap (λ (t : List ℕ). now ++ t) (each_run-first k run (drop (k + 1) runs) ∙ ap (each_run_text r es ws k) (sym cut)) ∙ before

  pub each_run-end :
      (runs : List Run) (k : ℕ) (now all : List ℕ) → length runs ≤ k → now ++ each_run_text r es ws k (drop k runs) ≡ all → now ≡ all
  each_run-end runs k now all past before =
      sym (append-nil now) ∙ ap (λ (t : List ℕ). now ++ t) (sym (ap (each_run_text r es ws k) (drop_all k runs past) ∙ each_run-none k)) ∙ before

module _ (T : List Event) (es : List ℕ) (k : ℕ) where
  tallies-first : (now : List Tally) (e : ℕ) (rest : List ℕ) → tallies_after T (tallied T now e) rest ≡ tallies_after T now (e ∷ rest)
  unfolding tallies_after
  tallies-first now e rest = refl

  tallies-none : (now : List Tally) → tallies_after T now [] ≡ now
  unfolding tallies_after
  tallies-none now = refl

  -- with the next event counted, those that are left complete the same tallies
  pub tallies-more :
      (e : ℕ) (now new all : List Tally) → drop k es ≡ e ∷ drop (k + 1) es → new ≡ tallied T now e → tallies_after T now (drop k es) ≡ all
      → tallies_after T new (drop (k + 1) es) ≡ all
  tallies-more e now new all cut last before =
      ap (λ (ts : List Tally). tallies_after T ts (drop (k + 1) es)) last ∙ tallies-first now e (drop (k + 1) es)
      ∙ ap (tallies_after T now) (sym cut) ∙ before

  pub tallies-end : (now all : List Tally) → length es ≤ k → tallies_after T now (drop k es) ≡ all → now ≡ all
  tallies-end now all past before = sym (ap (tallies_after T now) (drop_all k es past) ∙ tallies-none now) ∙ before

  runs-first :
      (last : Option Run) (e : ℕ) (rest : List ℕ)
      → ended_before last (thread_of T e) ++ runs_after T (Some (next_run last (thread_of T e))) rest ≡ runs_after T last (e ∷ rest)
  unfolding runs_after
  runs-first last e rest = refl

  runs-none : (last : Option Run) → ended last ≡ runs_after T last []
  unfolding runs_after
  runs-none last = refl

  -- with the next event, the runs of those that are left complete the same runs
  pub runs-more :
      (e t : ℕ) (last : Option Run) (run : Run) (now new all : List Run) → drop k es ≡ e ∷ drop (k + 1) es → t ≡ thread_of T e
      → new ≡ now ++ ended_before last t → run ≡ next_run last t → now ++ runs_after T last (drop k es) ≡ all
      → new ++ runs_after T (Some run) (drop (k + 1) es) ≡ all
  runs-more e t last run now new all cut thread ends next before =
      ap (λ (s : Run). new ++ runs_after T (Some s) (drop (k + 1) es)) (next ∙ ap (next_run last) thread)
      ∙ ap (λ (xs : List Run). xs ++ runs_after T (Some (next_run last (thread_of T e))) (drop (k + 1) es))
      (ends ∙ ap (λ (n : ℕ). now ++ ended_before last n) thread)
      ∙ append_assoc now (ended_before last (thread_of T e)) (runs_after T (Some (next_run last (thread_of T e))) (drop (k + 1) es))
      ∙ ap (λ (xs : List Run). now ++ xs) (runs-first last e (drop (k + 1) es) ∙ ap (runs_after T last) (sym cut)) ∙ before

  pub runs-end :
      (last : Option Run) (now all : List Run) → length es ≤ k → now ++ runs_after T last (drop k es) ≡ all → now ++ ended last ≡ all
  runs-end last now all past before =
      ap (λ (xs : List Run). now ++ xs) (runs-none last ∙ ap (runs_after T last) (sym (drop_all k es past))) ∙ before
