-- A line more, and what is refused after lines.
use Rattle.std.proofs.Common.{◌≡◌, ◌≢◌, ℕ, ◌+◌, nat_eq, suc, false, List, [], ◌∷◌, ◌++◌, append_assoc, append-nil, length, map, ap, sym, ◌∙◌, refl, arith, ne_eqb}
use Rattle.std.proofs.lemmas.List.{length-map, map-append}
use Rattle.serde_json.specs.Data.{Data}
use Rattle.serde_json.specs.View.{view}
use Rattle.serde_json.specs.declared.value.Value.{Value}
use Rattle.race_parts.specs.Lines.{AreLines, HasNoFeed, IsReadOn, IsUnread, IsStopped, begin_line, lines_of}
use Rattle.race_parts.specs.Rows.{mark_of}
use Rattle.race_parts.specs.declared.rows.Mark.{Mark}
use Rattle.race_parts.specs.declared.lines.PartRefusal.{PartRefusal}
use Rattle.race_parts.specs.declared.lines.PartRefusal.TheVariants.{Line, Version, Clash, OutOfMemory}

-- What was read of a text, and what is left of it.
pub record IsReading (text rest : List ℕ) (found : List Data) : Type 0 where
  pub done : List ℕ
  pub all : text ≡ done ++ rest
  pub lines : AreLines done found

-- a line moves from what is left to what was read
regroup : (done bytes behind : List ℕ) → done ++ (bytes ++ 10 ∷ behind) ≡ (done ++ bytes ++ 10 ∷ []) ++ behind
regroup done bytes behind = sym (append_assoc (done ++ bytes) (10 ∷ []) behind ∙ append_assoc done bytes (10 ∷ behind))

-- one line more was read
pub reading_goes_on :
    (text rest behind : List ℕ) (found : List Data) (d : Data) → IsReading text rest found → IsReadOn rest behind d → IsReading text behind (found ++ d ∷ [])
reading_goes_on text rest behind found d reading on = record {
  done = reading.done ++ on.bytes ++ 10 ∷ [];
  all = reading.all ∙ ap (λ (xs : List ℕ). reading.done ++ xs) on.cut ∙ regroup reading.done on.bytes behind;
  lines = AreLines.another reading.done on.bytes found d reading.lines on.one on.tells;
}

-- the first line was read
pub reading_begins : (text behind : List ℕ) (d : Data) → IsReadOn text behind d → IsReading text behind (d ∷ [])
reading_begins text behind d on = reading_goes_on text text behind [] d (record { done = []; all = refl; lines = AreLines.none }) on

-- the same of values
pub values_begin : (text behind : List ℕ) (v : Value) (vs : List Value) → IsReadOn text behind (view v) → vs ≡ v ∷ [] → IsReading text behind (map view vs)
values_begin text behind v vs on e = rw e (reading_begins text behind (view v) on)

pub values_go_on : (text rest behind : List ℕ) (vs more : List Value) (v : Value) → IsReading text rest (map view vs) → IsReadOn rest behind (view v) → more ≡ vs ++ v ∷ []
    → IsReading text behind (map view more)
values_go_on text rest behind vs more v reading on e = rw (e, map-append view vs (v ∷ [])) (reading_goes_on text rest behind (map view vs) (view v) reading on)

-- the lines after the first, and what they are
pub record AreMarked (text rest : List ℕ) (d : Data) (marks : List Mark) : Type 0 where
  pub others : List Data
  pub reading : IsReading text rest (d ∷ others)
  pub marks_are : marks ≡ map mark_of others

pub marked_begin : (text behind : List ℕ) (d : Data) → IsReadOn text behind d → AreMarked text behind d []
marked_begin text behind d on = record { others = []; reading = reading_begins text behind d on; marks_are = refl }

pub marked_go_on : (text rest behind : List ℕ) (d : Data) (marks more : List Mark) (mark : Mark) → AreMarked text rest d marks → (e : Data) × IsReadOn rest behind e × (mark ≡ mark_of e)
    → more ≡ marks ++ mark ∷ [] → AreMarked text behind d more
marked_go_on text rest behind d marks more mark marked on last = record {
  others = marked.others ++ on.0 ∷ [];
  reading = reading_goes_on text rest behind (d ∷ marked.others) on.0 marked.reading on.1;
  marks_are = last ∙ ap (λ (ms : List Mark). ms ++ mark ∷ []) marked.marks_are ∙ ap (λ m. map mark_of marked.others ++ m ∷ []) on.2 ∙ sym (map-append mark_of marked.others (on.0 ∷ []));
}

-- all was read
pub reading_ends : (text rest : List ℕ) (found : List Data) → IsReading text rest found → rest ≡ [] → AreLines text found
reading_ends text rest found reading e =
    rw (reading.all ∙ ap (λ (xs : List ℕ). reading.done ++ xs) e ∙ append-nil reading.done) reading.lines

-- no line was read
pub reading_stops :
    (text rest : List ℕ) (found : List Data) (before : ℕ) (why : PartRefusal) → IsReading text rest found → rest ≢ [] → before ≡ length found → IsStopped before rest why → IsUnread text why
reading_stops text rest found before (Line line) reading more long stopped = record {
  done = reading.done;
  rest = rest;
  before = found;
  all = reading.all;
  read = reading.lines;
  more = more;
  line_is = stopped.0 ∙ long;
  wrong = rw (sym long) stopped.1;
}
reading_stops text rest found before Version reading more long stopped = stopped
reading_stops text rest found before (Clash file) reading more long stopped = stopped
reading_stops text rest found before OutOfMemory reading more long stopped = tt

pub values_stop : (text rest : List ℕ) (vs : List Value) (why : PartRefusal) → IsReading text rest (map view vs) → rest ≢ [] → IsStopped (length vs) rest why → IsUnread text why
values_stop text rest vs why reading more stopped = reading_stops text rest (map view vs) (length vs) why reading more (sym (length-map vs view)) stopped

pub values_end : (text rest : List ℕ) (vs : List Value) → IsReading text rest (map view vs) → rest ≡ [] → AreLines text (map view vs)
values_end text rest vs reading e = reading_ends text rest (map view vs) reading e

pub marked_stop : (text rest : List ℕ) (d : Data) (marks : List Mark) (why : PartRefusal) → AreMarked text rest d marks → rest ≢ [] → IsStopped (length marks + 1) rest why → IsUnread text why
marked_stop text rest d marks why marked more stopped =
    reading_stops text rest (d ∷ marked.others) (length marks + 1) why marked.reading more (omega (arith, ap length marked.marks_are, length-map marked.others mark_of)) stopped

pub marked_end : (text rest : List ℕ) (d : Data) (marks : List Mark) → AreMarked text rest d marks → rest ≡ [] → (ds : List Data) × AreLines text (d ∷ ds) × (marks ≡ map mark_of ds)
marked_end text rest d marks marked e = (marked.others, reading_ends text rest (d ∷ marked.others) marked.reading e, marked.marks_are)

-- nothing was read
pub begin_stops : (text : List ℕ) (why : PartRefusal) → text ≢ [] → IsStopped 0 text why → IsUnread text why
begin_stops text why more stopped = reading_stops text text [] 0 why (record { done = []; all = refl; lines = AreLines.none }) more refl stopped

-- ---- the lines of a text

after_byte : (b : ℕ) (bs : List ℕ) → HasNoFeed (b ∷ bs) → HasNoFeed bs
after_byte b bs free k inside = free (suc k) (omega (arith, inside))

no_feed : (b : ℕ) (bs : List ℕ) → HasNoFeed (b ∷ bs) → nat_eq b 10 ≡ false
no_feed b bs free = ne_eqb b 10 (free 0 (omega arith))

pub lines-more : (line behind : List ℕ) → HasNoFeed line → lines_of (line ++ 10 ∷ behind) ≡ line ∷ lines_of behind
unfolding lines_of
lines-more [] behind free = refl
lines-more (b ∷ bs) behind free = rw (no_feed b bs free) (ap (begin_line b) (lines-more bs behind (after_byte b bs free)))

pub lines-none : (text : List ℕ) → HasNoFeed text → lines_of text ≡ []
unfolding lines_of
lines-none [] free = refl
lines-none (b ∷ bs) free = rw (no_feed b bs free) (ap (begin_line b) (lines-none bs (after_byte b bs free)))
