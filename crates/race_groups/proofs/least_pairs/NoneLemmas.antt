-- Where no row counts a pair of a kind, no pair is of it.
use Rattle.std.proofs.Common.{◌≡◌, ℕ, false, inl, inr, slice_index}
use Rattle.std.proofs.lemmas.Bool.{cases_Bool}
use Rattle.must_order.specs.Kinds.{IsKind}
use Rattle.must_order.specs.declared.kind.Kind.TheVariants.{Candidate, Open}
use Rattle.race_groups.specs.Classes.{is_kept_pair}
use Rattle.race_groups.specs.Groups.{group_of}
use Rattle.race_groups.specs.Kinds.{IsRow}
use Rattle.race_groups.specs.Shared.{keeps_shared}
use Rattle.race_groups.specs.declared.kinds.Row.{Row}
use Rattle.race_groups.proofs.ApartLemmas.{in_group, none_counted}
use Rattle.race_groups.proofs.TellLemmas.{sharing_tells, shared_by_none}
use Rattle.race_groups.specs.least_pairs.Going.{IsSound}
use Rattle.race_groups.specs.least_pairs.Pairs.{IsPair}
use Rattle.race_groups.specs.declared.least_pairs.leasts.Search.{Search}
use Rattle.race_groups.proofs.least_pairs.BasicLemmas.{at_get}

module _ (s : Search) (sound : IsSound s) (a b : ℕ) (pair : IsPair s.indexed.now.events a b) where
  abbrev place : ℕ → ℕ
  place = slice_index s.places.now

  pub no_candidate_pair : s.has_candidates ≡ false → ¬ IsKind s.indexed.now a b Candidate
  no_candidate_pair none kind =
      let found = sound.groups.complete a b pair.earlier pair.conflict in
      let row = found.row in
      let is = at_get (IsRow s.indexed.now place) s.groups.now.rows.items found.at row sound.groups.rows_are found.is in
      let zero = at_get (λ (w : Row). w.counts.candidates ≡ 0) s.groups.now.rows.items found.at row (sound.no_candidate none) found.is in
      none_counted (λ e. IsKind s.indexed.now e.0 e.1 Candidate) (group_of s.indexed.now.events place row.places.0 row.places.1) row.counts.candidates (a, b) is.candidates zero
      (in_group s.indexed.now.events place row.places.0 row.places.1 a b pair.earlier pair.conflict found.between) kind

  pub no_open_pair : s.has_open ≡ false → ¬ IsKind s.indexed.now a b Open
  no_open_pair none kind =
      let found = sound.groups.complete a b pair.earlier pair.conflict in
      let row = found.row in
      let is = at_get (IsRow s.indexed.now place) s.groups.now.rows.items found.at row sound.groups.rows_are found.is in
      let zero = at_get (λ (w : Row). w.counts.open_pairs ≡ 0) s.groups.now.rows.items found.at row (sound.no_open none) found.is in
      none_counted (λ e. IsKind s.indexed.now e.0 e.1 Open) (group_of s.indexed.now.events place row.places.0 row.places.1) row.counts.open_pairs (a, b) is.open_pairs zero
      (in_group s.indexed.now.events place row.places.0 row.places.1 a b pair.earlier pair.conflict found.between) kind

  -- an open pair has no lock in common
  pub open_apart : IsKind s.indexed.now a b Open → is_kept_pair (keeps_shared s.classes.now.lists.keys) s.classes.now.numbers.items s.classes.now.infos.items a b ≡ false
  open_apart kind =
      let test = is_kept_pair (keeps_shared s.classes.now.lists.keys) s.classes.now.numbers.items s.classes.now.infos.items a b in
      let tells = sharing_tells s.indexed.now sound.formed sound.rules place s.classes.now.numbers.items s.classes.now.infos.items s.classes.now.lists.keys
      sound.groups.classes sound.groups.locks a b pair.conflict in
      let none = (shared_by_none s.indexed.now sound.formed sound.rules a b).0 kind.2 in
      elim (cases_Bool test) [ inl shares ↦ absurd (none (tells.0 shares)) | inr apart ↦ apart ]
