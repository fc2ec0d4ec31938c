-- What a look-up tells of its answer beside the definition. `r` is the recording in the index, `s` its tables, `q` the
-- recording that contracts see.
use Rattle.std.proofs.Common.{◌≡◌, ℕ, ◌+◌, ◌-◌, ◌<◌, List, Option, Some, None, length, get_or, take, drop, sym, ap, ◌∙◌, arith}
use Rattle.std.specs.List.{slice_index}
use Rattle.std.specs.Option.{IfSome}
use Rattle.std.proofs.lemmas.List.{get_or_default}
use Rattle.rapid_text.specs.Recording.{Recording}
use Rattle.trace_rules.specs.Rules.{IsDisciplined}
use Rattle.event_index.specs.Lookups.{events_of, place_of, last_writer, fork_of, base_of, section_end}
use Rattle.event_index.specs.Layout.{AreTables}
use Rattle.event_index.specs.declared.tables.Tables.{Tables}
use Rattle.event_index.proofs.CallerLemmas.{base_of-earlier, fork_of-some, last_writer-earlier, place_of-le, section_end-later}
use Rattle.event_index.proofs.TableLemmas.{get_or-IsTable}

-- what holds of each answer holds of this one
if_some : (x o : Option ℕ) (P : ℕ → Type 0) → x ≡ o → ((b : ℕ) → o ≡ Some b → P b) → IfSome x P
if_some None o P same h = tt
if_some (Some b) o P same h = h b (sym same)

module _ (r q : Recording) (s : Tables) (same : r ≡ q) (rules : IsDisciplined r.events) (tables : AreTables r s) where
  now_tables : AreTables q s
  now_tables = rw (← same) tables

  pub base_read : (e : ℕ) (x : Option ℕ) → e < length q.events → x ≡ get_or s.bases.items e x → IfSome x (λ b. b < e)
  base_read e x within is =
      if_some x (base_of q.events e) (λ b. b < e) (is ∙ get_or-IsTable (base_of q.events) (length q.events) s.bases.items now_tables.bases e x within)
      (base_of-earlier q.events (rw (← same) rules) e)

  pub fork_read : (u : ℕ) (x : Option ℕ) → u < length q.threads → x ≡ get_or s.forks.items u x → IfSome x (λ f. f < length q.events)
  fork_read u x within is =
      if_some x (fork_of q.events u) (λ f. f < length q.events)
      (is ∙ get_or-IsTable (fork_of q.events) (length q.threads) s.forks.items now_tables.forks u x within) (λ f h. (fork_of-some q.events u f h).0)

  pub writer_read : (e : ℕ) (x : Option ℕ) → e < length q.events → x ≡ get_or s.writers.items e x → IfSome x (λ w. w < e)
  writer_read e x within is =
      if_some x (last_writer q.events e) (λ w. w < e)
      (is ∙ get_or-IsTable (last_writer q.events) (length q.events) s.writers.items now_tables.writers e x within) (last_writer-earlier q.events e)

  pub section_read : (e : ℕ) (x : Option ℕ) → e < length q.events → x ≡ get_or s.sections.items e x → IfSome x (λ j. (e < j) × (j < length q.events))
  section_read e x within is =
      if_some x (section_end q.events e) (λ j. (e < j) × (j < length q.events))
      (is ∙ get_or-IsTable (section_end q.events) (length q.events) s.sections.items now_tables.sections e x within) (section_end-later q.events e)

  pub place_read : (e x : ℕ) → e < length q.events → x ≡ get_or s.places.items e x → x < length q.events
  place_read e x within is =
      let is_place : x ≡ place_of q.events e = is ∙ get_or-IsTable (place_of q.events) (length q.events) s.places.items now_tables.places e x within in
      omega (arith, is_place, place_of-le q.events e (omega arith))

  pub part_read : (t low high : ℕ) (row : List ℕ) → t < length q.threads → row ≡ s.grouped.items → low ≡ get_or s.starts.items t low
      → high ≡ get_or s.starts.items (t + 1) high → take (high - low) (drop low row) ≡ events_of q.events t
  part_read t low high row within is low_is high_is =
      let size = now_tables.grouped.len in
      let from : low ≡ slice_index s.starts.items t = low_is ∙ get_or_default s.starts.items t low 0 (omega arith) in
      let to : high ≡ slice_index s.starts.items (t + 1) = high_is ∙ get_or_default s.starts.items (t + 1) high 0 (omega arith) in
      ap (λ (n : ℕ). take (n - low) (drop low row)) to ∙ ap (λ (n : ℕ). take (slice_index s.starts.items (t + 1) - n) (drop n row)) from
      ∙ ap (λ (xs : List ℕ). take (slice_index s.starts.items (t + 1) - slice_index s.starts.items t) (drop (slice_index s.starts.items t) xs)) is
      ∙ now_tables.grouped.part t within
