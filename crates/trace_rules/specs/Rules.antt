-- The rules that a trace has to keep, so that schedules of it can be judged. They are this project's own.
use Rattle.std.specs.Prelude.{◌≡◌, ◌≢◌, ℕ, ◌-◌, ◌<◌, ◌==◌, nat_lt, not, ◌&&◌, ◌||◌, if◌then◌else◌, List, length, take, count_by, filter_map, slice_get, Option, Some, None, option_map, option_and_then}
use Rattle.std.specs.List.{list_any, range_with_len}
use Rattle.rapid_text.specs.Operations.{is_acquire, is_release, is_fork, is_join}
use Rattle.rapid_text.specs.declared.event.Event.{Event}
use Rattle.rapid_text.specs.declared.event.Op.{Op}
use Rattle.rapid_text.specs.declared.event.Op.TheVariants.{Acquire, Release, Fork, Join}
use Rattle.trace_rules.specs.declared.refusal.RuleCause.{RuleCause}
use Rattle.trace_rules.specs.declared.refusal.RuleCause.TheVariants.{ReleaseNotHeld, AcquireHeld, ForkTwice, ForkLate, OwnThread, AfterJoin, OutOfMemory}
use Rattle.trace_rules.specs.declared.refusal.RuleRefusal.{RuleRefusal}

-- how often the thread t acquires the lock l in the events es
abbrev pub acquire_count : List Event → ℕ → ℕ → ℕ
acquire_count es t l = count_by (λ e. e.thread == t && is_acquire l e.op) es

-- how often the thread t releases the lock l in the events es
abbrev pub release_count : List Event → ℕ → ℕ → ℕ
release_count es t l = count_by (λ e. e.thread == t && is_release l e.op) es

-- how many holds of the lock l the thread t has after the events es
abbrev pub hold_count : List Event → ℕ → ℕ → ℕ
hold_count es t l = acquire_count es t l - release_count es t l

-- A trace that breaks no rule. `T` is its events; `i` and `j` are the positions of two events.
pub record IsDisciplined (T : List Event) : Type 0 where
  -- a thread has no event after a join of it
  pub no_event_after_join :
      (i j : ℕ) (d e : Event) → i < j → slice_get T i ≡ Some d → slice_get T j ≡ Some e → d.op ≢ Join e.thread
  -- no thread forks or joins itself
  pub no_own_fork : (j : ℕ) (e : Event) → slice_get T j ≡ Some e → e.op ≢ Fork e.thread
  pub no_own_join : (j : ℕ) (e : Event) → slice_get T j ≡ Some e → e.op ≢ Join e.thread
  -- a thread is forked once
  pub no_second_fork :
      (i j u : ℕ) (d e : Event) → i < j → slice_get T i ≡ Some d → slice_get T j ≡ Some e → e.op ≡ Fork u → d.op ≢ Fork u
  -- a thread is forked before its first event, and before it is joined
  pub no_event_before_fork :
      (i j u : ℕ) (d e : Event) → i < j → slice_get T i ≡ Some d → slice_get T j ≡ Some e → e.op ≡ Fork u → d.thread ≢ u
  pub no_join_before_fork :
      (i j u : ℕ) (d e : Event) → i < j → slice_get T i ≡ Some d → slice_get T j ≡ Some e → e.op ≡ Fork u → d.op ≢ Join u
  -- a thread acquires a lock only if no other thread holds it
  pub acquires_free :
      (j l u : ℕ) (e : Event) → slice_get T j ≡ Some e → e.op ≡ Acquire l → u ≢ e.thread → hold_count (take j T) u l ≡ 0
  -- a thread releases a lock only if it holds it
  pub releases_held :
      (j l : ℕ) (e : Event) → slice_get T j ≡ Some e → e.op ≡ Release l → 0 < hold_count (take j T) e.thread l

-- the first rule that the operation of thread t breaks after the events es; leaves out rule 16
abbrev pub breach_of_op : List Event → ℕ → Op → Option RuleCause
breach_of_op es t (Acquire l) =
    if list_any (λ e. not (e.thread == t) && nat_lt 0 (hold_count es e.thread l)) es then Some AcquireHeld else None
breach_of_op es t (Release l) = if hold_count es t l == 0 then Some ReleaseNotHeld else None
breach_of_op es t (Fork u) =
    if u == t
    then Some OwnThread
    else (if list_any (λ e. is_fork u e.op) es
    then Some ForkTwice
    else (if list_any (λ e. e.thread == u || is_join u e.op) es then Some ForkLate else None))
breach_of_op es t (Join u) = if u == t then Some OwnThread else None
breach_of_op es t op = None

-- the first rule that the event e breaks after the events es
abbrev pub breach_of : List Event → Event → Option RuleCause
breach_of es e =
    if list_any (λ d. is_join e.thread d.op) es then Some AfterJoin else breach_of_op es e.thread e.op

-- the first rule that the event at position i breaks
abbrev pub breach_at : List Event → ℕ → Option RuleCause
breach_at T i = option_and_then (breach_of (take i T)) (slice_get T i)

-- The event of r is the first that breaks a rule, and the rule of r is the first that it breaks.
pub record IsFirstBreach (T : List Event) (r : RuleRefusal) : Type 0 where
  pub within : r.event < length T
  pub breach : breach_at T r.event ≡ Some r.why
  pub before : (j : ℕ) → j < r.event → breach_at T j ≡ None

-- the refusal for the event at position i, if it breaks a rule
abbrev pub refusal_at : List Event → ℕ → Option RuleRefusal
refusal_at T i = option_map (λ why. record { event = i; why = why }) (breach_at T i)

-- the refusals for all events that break a rule, in the order of the events
abbrev pub breaches_of : List Event → List RuleRefusal
breaches_of T = filter_map (refusal_at T) (range_with_len 0 (length T))

-- the first of those refusals: the first event that breaks a rule, and the first rule that it breaks
unfoldable pub first_breach : List Event → Option RuleRefusal
first_breach T = slice_get (breaches_of T) 0

-- memory ran out; no event is at fault
abbrev pub no_memory : RuleRefusal
no_memory = record { event = 0; why = OutOfMemory }
