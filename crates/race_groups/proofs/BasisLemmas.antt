-- What comes below the three cuts, as it is added to the rows.
use Rattle.std.proofs.Common.{◌≡◌, ◌+◌, ℕ, ◌<◌, ◌≤◌, List, length, replicate, slice_index, sum_by, Some, sym, ap, ◌∙◌, arith}
use Rattle.std.specs.Bool.{if◌then◌else◌}
use Rattle.std.specs.List.{slice_get}
use Rattle.std.proofs.lemmas.List.{length-replicate}
use Rattle.rapid_text.specs.declared.event.Event.{Event}
use Rattle.event_index.specs.Events.{thread_at}
use Rattle.event_index.specs.Lookups.{before, count_before, events_of}
use Rattle.event_index.proofs.CallerLemmas.{events_of-within, thread_within}
use Rattle.race_groups.specs.Adding.{added_of, loose_in}
use Rattle.race_groups.specs.Basis.{AreBelow, AreFrontsBefore, AreLoose, IsBasis, class_of, later_of, loose_of}
use Rattle.race_groups.specs.Classes.{adds_to}
use Rattle.race_groups.specs.Counting.{AreMoved, IsBlank, IsFront, ends_list}
use Rattle.race_groups.specs.Counts.{keeps}
use Rattle.race_groups.specs.Ends.{counted_before, known_before, lower_of, upper_of}
use Rattle.race_groups.specs.Rows.{Part}
use Rattle.race_groups.specs.declared.basis.Basis.{Basis}
use Rattle.race_groups.specs.declared.class.Class.{Class}
use Rattle.race_groups.specs.declared.classes.Classes.{Classes}
use Rattle.race_groups.specs.declared.below.Below.{Below}
use Rattle.race_groups.specs.declared.counting.Front.{Front}
use Rattle.race_groups.specs.declared.fronts.Fronts.{Fronts}
use Rattle.race_groups.specs.declared.shares.Loose.{Loose}
use Rattle.race_groups.proofs.ClassLemmas.{class_nothing, class_whole, sums_nested, sums_nothing, sums_small}
use Rattle.race_groups.proofs.FrontLemmas.{front_count-le}
use Rattle.race_groups.proofs.LaterLemmas.{later_nothing, later_whole}
use Rattle.race_groups.proofs.LooseLemmas.{fronts_nested, loose_added}
use Rattle.race_groups.proofs.OwnerLemmas.{own_nothing}
use Rattle.race_groups.proofs.PassedLemmas.{IsFront-passed}
use Rattle.race_groups.proofs.ThreadLemmas.{All-before}
use Rattle.race_groups.proofs.WeightLemmas.{ends_are}

-- what is loose, by the counts that it is told by
pub loose_same : (classes : Classes) (j : Class) (loose : Loose) (earlier known forced : List ℕ) → loose.earlier.now ≡ earlier → loose.known.now ≡ known → loose.forced.now ≡ forced
    → (k : Part) (p q : ℕ) (cs : List ℕ)
    → sum_by (λ c. added_of classes j k p q c (loose_in loose k c)) cs ≡ sum_by (λ c. added_of classes j k p q c (loose_of earlier known forced k c)) cs
loose_same classes j loose earlier known forced one two three k p q cs =
    let sum = λ (x y z : List ℕ). sum_by (λ c. added_of classes j k p q c (loose_of x y z k c)) cs in
    ap (λ (x : List ℕ). sum x loose.known.now loose.forced.now) one ∙ ap (λ (x : List ℕ). sum earlier x loose.forced.now) two ∙ ap (λ (x : List ℕ). sum earlier known x) three

-- a front by the length of its own counts
pub blank_same : (threads n : ℕ) (front : Front) → IsBlank threads n front → IsBlank threads (length front.counts.items) front
blank_same threads n front is = record { fronts = is.fronts; counts = is.counts ∙ ap (λ m. replicate m 0) (sym (ap length is.counts ∙ length-replicate n 0)) }

pub blank_len : (threads n : ℕ) (front : Front) → IsBlank threads n front → length front.counts.items ≡ n
blank_len threads n front is = ap length is.counts ∙ length-replicate n 0

module _ (b : Basis) (sound : IsBasis b) (u : ℕ) (named : u < length b.indexed.now.threads) where
  abbrev T : List Event
  T = b.indexed.now.events

  abbrev threads : ℕ
  threads = length b.indexed.now.threads

  abbrev n : ℕ
  n = length b.classes.now.infos.items

  abbrev numbers : List ℕ
  numbers = b.classes.now.numbers.items

  -- of one later event of the thread, event e
  module _ (i e : ℕ) (at : thread_at b.indexed.now.events e ≡ Some u) (fronts : Fronts) (are : AreFrontsBefore b u i fronts) (moved : AreMoved b.indexed.now.events (length b.indexed.now.threads) u b.forced.now e fronts) where
    -- what is earlier in the trace comes before these ends
    abbrev ends : List ℕ
    ends = ends_list threads u (count_before T e)

    earlier_front : IsFront T threads n numbers u (count_before T) i ends fronts.earlier.counts.items
    earlier_front = IsFront-passed b.indexed.now sound.formed numbers u named n i e fronts.earlier are.earlier are.len moved.earlier at

    pub later_loose : AreLoose b u fronts.earlier.counts.items fronts.known.counts.items fronts.forced.counts.items
    later_loose =
        let low = thread_within T e u at in
        let earlier = earlier_front in
        record {
          earlier_len = are.len;
          known_len = are.known.len;
          forced_len = are.forced.len;
          under = fronts_nested T threads n numbers u (known_before T) (count_before T) i e fronts.known.fronts.items fronts.known.counts.items ends fronts.earlier.counts.items are.known earlier moved.known (ends_are threads u (count_before T e) named)
              (λ t lt. sound.cuts.known.earlier e t low);
          within = fronts_nested T threads n numbers u (counted_before b.forced.now T) (known_before T) i e fronts.forced.fronts.items fronts.forced.counts.items fronts.known.fronts.items fronts.known.counts.items are.forced are.known moved.forced moved.known
              (λ t lt. sound.cuts.nested e t low);
          own = own_nothing b.indexed.now n numbers u (count_before T) i ends fronts.earlier.counts.items earlier b.conflicts.now.owners.items sound.conflicts.owners named;
          few = λ c lt.
              let few = front_count-le b.indexed.now sound.formed numbers ends c earlier.counts.within in
              let is = earlier.counts.counted c (omega (arith, lt, are.len)) in
              omega (arith, few, is, sound.formed.events);
        }

    pub later_added :
        (j : Class) → slice_get b.classes.now.infos.items (slice_index b.classes.now.numbers.items e) ≡ Some j → (k : Part) (p q : ℕ)
        → sum_by (λ c. if adds_to (keeps b.classes.now.lists.keys k) p q j (slice_get b.classes.now.infos.items c)
        then loose_of fronts.earlier.counts.items fronts.known.counts.items fronts.forced.counts.items k c else 0) (before (length b.classes.now.infos.items))
        + later_of b u e (keeps b.classes.now.lists.keys k) (lower_of b.indexed.now.events b.forced.now k) p q
        ≡ later_of b u e (keeps b.classes.now.lists.keys k) (upper_of b.indexed.now.events k) p q
    later_added j is k p q =
        let r = b.indexed.now in
        let infos = b.classes.now.infos.items in
        let keep = keeps b.classes.now.lists.keys k in
        let loose = later_loose in
        loose_added T b.forced.now (λ c. adds_to keep p q j (slice_get infos c)) fronts.earlier.counts.items fronts.known.counts.items fronts.forced.counts.items (before n)
        (λ end. later_of b u e keep end p q)
        (All-before (λ c. slice_index fronts.known.counts.items c ≤ slice_index fronts.earlier.counts.items c) n loose.under)
        (All-before (λ c. slice_index fronts.forced.counts.items c ≤ slice_index fronts.known.counts.items c) n loose.within)
        (later_nothing T keep numbers infos u p q e)
        (later_whole r sound.formed n numbers u (count_before T) i ends fronts.earlier.counts.items earlier_front e (ends_are threads u (count_before T e) named) infos keep j sound.numbers sound.classes (omega arith) is p q)
        (later_whole r sound.formed n numbers u (known_before T) i fronts.known.fronts.items fronts.known.counts.items are.known e moved.known infos keep j sound.numbers sound.classes (omega arith) is p q)
        (later_whole r sound.formed n numbers u (counted_before b.forced.now T) i fronts.forced.fronts.items fronts.forced.counts.items are.forced e moved.forced infos keep j sound.numbers sound.classes (omega arith) is p q) k

  -- of all events of the thread that are of class j, together
  module _ (j : ℕ) (below : Below) (are : AreBelow b u j below) where
    pub class_loose : AreLoose b u below.earlier.counts.items below.known.counts.items below.forced.counts.items
    class_loose = record {
      earlier_len = are.earlier.len;
      known_len = are.known.len;
      forced_len = are.forced.len;
      under = sums_nested T threads numbers u j n (known_before T) (count_before T) below.known.counts.items below.earlier.counts.items are.known.counted are.earlier.counted
          (λ e lt t low. sound.cuts.known.earlier e t lt);
      within = sums_nested T threads numbers u j n (counted_before b.forced.now T) (known_before T) below.forced.counts.items below.known.counts.items are.forced.counted are.known.counted
          (λ e lt t low. sound.cuts.nested e t lt);
      own = λ c lt owned.
          are.earlier.counted c lt ∙ sums_nothing T threads numbers b.conflicts.now.owners.items sound.conflicts.owners u c named owned (count_before T) j (events_of T u);
      few = λ c lt.
          let small = sums_small b.indexed.now sound.formed numbers u j (count_before T) sound.cuts.earlier.within named c in
          let is = are.earlier.counted c lt in
          omega (arith, small, is);
    }

    pub class_added :
        (info : Class) → slice_get b.classes.now.infos.items j ≡ Some info → (k : Part) (p q : ℕ)
        → sum_by (λ c. if adds_to (keeps b.classes.now.lists.keys k) p q info (slice_get b.classes.now.infos.items c)
        then loose_of below.earlier.counts.items below.known.counts.items below.forced.counts.items k c else 0) (before (length b.classes.now.infos.items))
        + class_of b u j (keeps b.classes.now.lists.keys k) (lower_of b.indexed.now.events b.forced.now k) p q
        ≡ class_of b u j (keeps b.classes.now.lists.keys k) (upper_of b.indexed.now.events k) p q
    class_added info at k p q =
        let r = b.indexed.now in
        let infos = b.classes.now.infos.items in
        let keep = keeps b.classes.now.lists.keys k in
        let loose = class_loose in
        let known = events_of-within T u in
        loose_added T b.forced.now (λ c. adds_to keep p q info (slice_get infos c)) below.earlier.counts.items below.known.counts.items below.forced.counts.items (before n)
        (λ end. class_of b u j keep end p q)
        (All-before (λ c. slice_index below.known.counts.items c ≤ slice_index below.earlier.counts.items c) n loose.under)
        (All-before (λ c. slice_index below.forced.counts.items c ≤ slice_index below.known.counts.items c) n loose.within)
        (class_nothing T keep numbers infos u p q j)
        (class_whole r sound.formed numbers infos u j info keep p q (count_before T) at sound.numbers sound.classes sound.cuts.earlier.within named (slice_index below.earlier.counts.items) known are.earlier.counted)
        (class_whole r sound.formed numbers infos u j info keep p q (known_before T) at sound.numbers sound.classes sound.cuts.known.within named (slice_index below.known.counts.items) known are.known.counted)
        (class_whole r sound.formed numbers infos u j info keep p q (counted_before b.forced.now T) at sound.numbers sound.classes sound.cuts.forced.within named (slice_index below.forced.counts.items) known are.forced.counted) k
