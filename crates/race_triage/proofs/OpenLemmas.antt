-- Rows without candidates, and the open pairs of theirs that are tried.
use Rattle.std.proofs.Common.{◌≡◌, ℕ, ◌<◌, max, length, take, get_or, Some, subst, arith}
use Rattle.std.specs.List.{slice_index_or}
use Rattle.std.proofs.lemmas.Option.{get_or_from_slice_get, slice_get_within}
use Rattle.rapid_text.specs.Recording.{Recording}
use Rattle.race_groups.specs.Kinds.{IsRow}
use Rattle.race_groups.specs.declared.kinds.Row.{Row}
use Rattle.race_groups.specs.least_pairs.Pairs.{AreFirstTries, AreLeasts, IsFit, IsLeastPair}
use Rattle.race_groups.specs.declared.least_pairs.least.Least.{Least}
use Rattle.race_groups.specs.declared.least_pairs.tries.Try.{Try}
use Rattle.race_groups.specs.declared.least_pairs.wanted.Wanted.TheVariants.{Open}
use Rattle.race_groups.proofs.least_pairs.CallerLemmas.{first_is_least, none_to_try, take_tries}
use Rattle.race_triage.specs.Verdicts.{AreOpenPairs, IsFirstFound}
use Rattle.race_triage.proofs.RowLemmas.{no_open, none_is_least}

-- what stands where nothing was tried
abbrev pub some_try : Try
some_try = record { between = record { variable = 0; earlier = 0; later = 0 }; pair = (0, 0) }

module _
    (r : Recording) (place : ℕ → ℕ) (row : Row) (is : IsRow r place row) (tries : ℕ) (l : Least) (least : AreLeasts r place row.places (max tries 1) l)
    (none : row.counts.candidates ≡ 0) where
  kept : AreFirstTries r place row.places (max tries 1) l.tries.items
  kept = least.tries (none_is_least r place row is none l.candidate least.candidate)

  -- those that are tried
  pub tried_first : AreFirstTries r place row.places tries (take tries l.tries.items)
  tried_first = take_tries r place row.places (max tries 1) l.tries.items kept tries (omega arith)

  pub tried_open : AreOpenPairs r (take tries l.tries.items)
  tried_open k d lt = let t = tried_first.each k d lt in (t.fit.pair, t.fit.kind)

  pub least_open : (d : Try) → 0 < length l.tries.items → IsLeastPair r place row.places Open (Some (slice_index_or l.tries.items 0 d).pair)
  least_open d some = first_is_least r place row.places (max tries 1) l.tries.items kept d (omega arith) some

  pub none_left : length l.tries.items ≡ 0 → row.counts.open_pairs ≡ 0
  none_left without = no_open r place row is (none_to_try r place row.places (max tries 1) l.tries.items kept (omega arith) without)

  -- the pair that was found
  pub found_fits : (budget : ℕ) (pair : ℕ × ℕ) → IsFirstFound r.events budget (take tries l.tries.items) pair → IsFit r place row.places Open pair.1 pair.0
  found_fits budget pair found =
      let ts = take tries l.tries.items in
      let here : get_or ts found.at found.one ≡ found.one = get_or_from_slice_get ts found.at found.one found.one found.one_is in
      let opens = tried_first.each found.at found.one (slice_get_within ts found.at found.one found.one_is) in
      let fit : IsFit r place row.places Open found.one.pair.1 found.one.pair.0 =
      subst (λ (t : Try). IsFit r place row.places Open t.pair.1 t.pair.0) here opens.fit in
      subst (λ (p : ℕ × ℕ). IsFit r place row.places Open p.1 p.0) found.told fit
