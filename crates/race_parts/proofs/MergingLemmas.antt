-- The parts of a merged report, taken in one after another.
use Rattle.std.proofs.Common.{◌≡◌, ◌==◌, ℕ, ◌+◌, ◌-◌, All, IfErr, List, [], ◌∷◌, ◌++◌, append_assoc, append-nil, length, map, Vec, Some, Result, Ok, Err, OnOk, inl, inr, true, false, refl, sym, ap, ◌∙◌, subst, arith}
use Rattle.std.specs.BTreeMap.{BTreeMap}
use Rattle.std.specs.declared.alloc.Global.{Global}
use Rattle.std.proofs.lemmas.Bool.{eqb-true}
use Rattle.std.specs.Option.{option_or}
use Rattle.std.proofs.lemmas.List.{length-append, map-append}
use Rattle.std.proofs.lemmas.List.Elements.{All-append, All-cons, All-nil, All-weaker}
use Rattle.serde_json.specs.declared.value.Value.{Value}
use Rattle.serde_json.specs.View.{view}
use Rattle.serde_json.specs.Data.{Data}
use Rattle.race_parts.specs.Lines.{AreLines, IsUnread}
use Rattle.race_parts.specs.Merging.{IsPartRefused, IsRefused, IsReportRefused, IsUnsound, is_merged, is_merged_head, IsClash, IsLineRefused, IsPartText, IsSound, IsUnputOr, IsUntaken, ListsReport, ClashesIn, text_told, told_of}
use Rattle.race_parts.specs.Parts.{AreThere, HasOther, HasPart, IfClash, IsPutFault, held_at, held_from, joined, single, text_at, told_in}
use Rattle.race_parts.specs.declared.lines.PartRefusal.{PartRefusal}
use Rattle.race_parts.specs.declared.lines.PartRefusal.TheVariants.{Line, Version, Clash, OutOfMemory}
use Rattle.race_parts.specs.declared.parts.Part.{Part}
use Rattle.race_parts.proofs.UnionLemmas.{held-joined, joined-assoc, or-assoc, or-none, told-append, told-cons}

abbrev Named : Type 0
Named = BTreeMap (Vec ℕ Global) Part

-- Of these lines, some were taken in, and the others are left. All are of the file of this number.
pub record IsTaking (old now : Named) (file : ℕ) (lines left : List Value) (place : ℕ) : Type 0 where
  pub each : (q : Vec ℕ Global) → joined (text_at now q) (told_in (map told_of left) q.items) ≡ joined (text_at old q) (told_in (map told_of lines) q.items)
  pub parts : All (λ p. IsPartText p.1) (map told_of left) → All (λ p. IsPartText p.1) (map told_of lines)
  pub done : List Value
  pub taken : All (λ v. IsPartText (text_told v)) done
  pub all : lines ≡ done ++ left
  pub place_is : place ≡ length done + 1
  pub held : (q : Vec ℕ Global) → held_at now q ≡ option_or (held_at old q) (held_from file (told_in (map told_of done) q.items))
  pub there : AreThere now (map told_of done)

pub taking_begins : (old : Named) (file : ℕ) (lines : List Value) → IsTaking old old file lines lines 1
taking_begins old file lines = record {
  each = λ q. refl;
  parts = λ all. all;
  done = [];
  taken = All-nil (λ (v : Value). IsPartText (text_told v));
  all = refl;
  place_is = refl;
  held = λ q. sym (or-none (held_at old q));
  there = All-nil (HasPart old);
}

-- one line more
held-more : (file : ℕ) (done : List Value) (v : Value) (q : List ℕ)
    → held_from file (told_in (map told_of (done ++ v ∷ [])) q) ≡ option_or (held_from file (told_in (map told_of done) q)) (held_from file (single (told_of v).0 (told_of v).1 q))
held-more file done v q =
    ap (λ (es : List (List ℕ × List ℕ)). held_from file (told_in es q)) (map-append told_of done (v ∷ []))
    ∙ ap (held_from file) (told-append (map told_of done) (told_of v ∷ []) q)
    ∙ held-joined file (told_in (map told_of done) q) (told_in (told_of v ∷ []) q)

pub there-one : (parts : Named) (p : List ℕ × List ℕ) → HasPart parts p → AreThere parts (p ∷ [])
there-one parts p h = All-cons (HasPart parts) p [] h (All-nil (HasPart parts))

-- a text that was there stays
there-stays : (now new : Named) (v : Value) (p : List ℕ × List ℕ)
    → ((q : Vec ℕ Global) → text_at new q ≡ joined (text_at now q) (single (told_of v).0 (told_of v).1 q.items))
    → HasPart now p → HasPart new p
there-stays now new v p took h key same = took key ∙ ap (λ o. joined o (single (told_of v).0 (told_of v).1 key.items)) (h key same)

there-more : (now new : Named) (done : List Value) (v : Value) → AreThere now (map told_of done)
    → ((q : Vec ℕ Global) → text_at new q ≡ joined (text_at now q) (single (told_of v).0 (told_of v).1 q.items))
    → HasPart new (told_of v)
    → AreThere new (map told_of (done ++ v ∷ []))
there-more now new done v all took puts =
    subst (AreThere new) (sym (map-append told_of done (v ∷ [])))
    (All-append (HasPart new) (map told_of done) (told_of v ∷ [])
    (All-weaker (HasPart now) (HasPart new) (λ p. there-stays now new v p took) (map told_of done) all) (there-one new (told_of v) puts))

pub taking_goes_on : (old now new : Named) (file : ℕ) (lines left behind : List Value) (v : Value) (place next : ℕ)
    → IsTaking old now file lines left place
    → left ≡ v ∷ behind
    → IsPartText (told_of v).1
    → ((q : Vec ℕ Global) → text_at new q ≡ joined (text_at now q) (single (told_of v).0 (told_of v).1 q.items))
    → ((q : Vec ℕ Global) → held_at new q ≡ option_or (held_at now q) (held_from file (single (told_of v).0 (told_of v).1 q.items)))
    → ((key : Vec ℕ Global) → key.items ≡ (told_of v).0 → text_at new key ≡ Some (told_of v).1)
    → next ≡ length lines - length behind + 1
    → IsTaking old new file lines behind next
taking_goes_on old now new file lines left behind v place next taking cut one took holds puts next_is =
    let is_part : Value → Type 0 = λ e. IsPartText (text_told e) in
    let first : map told_of left ≡ told_of v ∷ map told_of behind = ap (map told_of) cut in
    let all : lines ≡ (taking.done ++ v ∷ []) ++ behind =
    taking.all ∙ ap (λ (vs : List Value). taking.done ++ vs) cut ∙ sym (append_assoc taking.done (v ∷ []) behind) in
    let long : length lines ≡ length (taking.done ++ v ∷ []) + length behind = ap length all ∙ length-append (taking.done ++ v ∷ []) behind in
    record {
      each = λ q.
          ap (λ o. joined o (told_in (map told_of behind) q.items)) (took q)
          ∙ joined-assoc (text_at now q) (single (told_of v).0 (told_of v).1 q.items) (told_in (map told_of behind) q.items)
          ∙ ap (joined (text_at now q)) (sym (told-cons (told_of v) (map told_of behind) q.items))
          ∙ ap (λ (es : List (List ℕ × List ℕ)). joined (text_at now q) (told_in es q.items)) (sym first)
          ∙ taking.each q;
      parts = λ rest. taking.parts (subst (λ (es : List (List ℕ × List ℕ)). All (λ p. IsPartText p.1) es) (sym first) (All-cons (λ (p : List ℕ × List ℕ). IsPartText p.1) (told_of v) (map told_of behind) one rest));
      done = taking.done ++ v ∷ [];
      taken = All-append is_part taking.done (v ∷ []) taking.taken (All-cons is_part v [] one (All-nil is_part));
      all = all;
      place_is = omega (arith, long, next_is);
      held = λ q.
          holds q
          ∙ ap (λ o. option_or o (held_from file (single (told_of v).0 (told_of v).1 q.items))) (taking.held q)
          ∙ or-assoc (held_at old q) (held_from file (told_in (map told_of taking.done) q.items)) (held_from file (single (told_of v).0 (told_of v).1 q.items))
          ∙ ap (option_or (held_at old q)) (sym (held-more file taking.done v q.items));
      there = there-more now new taking.done v taking.there took puts;
    }

-- nothing is left
pub taking_ends : (old now : Named) (file : ℕ) (lines left : List Value) (place : ℕ) → IsTaking old now file lines left place → left ≡ []
    → (q : Vec ℕ Global) → held_at now q ≡ option_or (held_at old q) (held_from file (told_in (map told_of lines) q.items))
taking_ends old now file lines left place taking none q =
    let all : taking.done ≡ lines = sym (taking.all ∙ ap (λ (vs : List Value). taking.done ++ vs) none ∙ append-nil taking.done) in
    taking.held q ∙ ap (λ (vs : List Value). option_or (held_at old q) (held_from file (told_in (map told_of vs) q.items))) all

pub taking_ends_there : (old now : Named) (file : ℕ) (lines left : List Value) (place : ℕ) → IsTaking old now file lines left place → left ≡ [] → AreThere now (map told_of lines)
taking_ends_there old now file lines left place taking none =
    let all : taking.done ≡ lines = sym (taking.all ∙ ap (λ (vs : List Value). taking.done ++ vs) none ∙ append-nil taking.done) in
    subst (λ (vs : List Value). AreThere now (map told_of vs)) all taking.there

-- the first of what is left is refused
pub taking_stops : (old now : Named) (file : ℕ) (lines left behind : List Value) (v : Value) (place : ℕ) (why : PartRefusal)
    → IsTaking old now file lines left place → left ≡ v ∷ behind → IsLineRefused (told_of v).1 place why → IsUntaken lines why
taking_stops old now file lines left behind v place (Line line) taking cut refused = record {
  done = taking.done;
  value = v;
  behind = behind;
  all = taking.all ∙ ap (λ (vs : List Value). taking.done ++ vs) cut;
  line_is = refused.0 ∙ taking.place_is;
  before = taking.taken;
  why = refused.1.0;
  in_text = refused.1.1;
  refused = refused.1.2;
}
taking_stops old now file lines left behind v place Version taking cut refused = refused
taking_stops old now file lines left behind v place (Clash other) taking cut refused = tt
taking_stops old now file lines left behind v place OutOfMemory taking cut refused = tt

-- the name of the first of what is left is another part's
taking_clashes : (old now : Named) (file : ℕ) (lines left behind : List Value) (v : Value) (place other : ℕ)
    → IsTaking old now file lines left place → left ≡ v ∷ behind → IsPartText (told_of v).1 → HasOther (held_at now) (told_of v).0 (told_of v).1 other
    → IsClash old file (map told_of lines) other
taking_clashes old now file lines left behind v place other taking cut part h = record {
  done = map told_of taking.done;
  one = told_of v;
  behind = map told_of behind;
  all = ap (map told_of) (taking.all ∙ ap (λ (vs : List Value). taking.done ++ vs) cut) ∙ map-append told_of taking.done (v ∷ behind);
  part = part;
  other = (h.0, h.1, h.2, sym (taking.held h.0) ∙ h.3, h.4);
}

pub taking_clash : (old now : Named) (file : ℕ) (lines left behind : List Value) (v : Value) (place : ℕ) (why : PartRefusal)
    → IsTaking old now file lines left place → left ≡ v ∷ behind
    → IfClash why (λ other. IsPartText (told_of v).1 × HasOther (held_at now) (told_of v).0 (told_of v).1 other)
    → IfClash why (IsClash old file (map told_of lines))
taking_clash old now file lines left behind v place (Line line) taking cut h = tt
taking_clash old now file lines left behind v place Version taking cut h = tt
taking_clash old now file lines left behind v place (Clash other) taking cut h = taking_clashes old now file lines left behind v place other taking cut h.0 h.1
taking_clash old now file lines left behind v place OutOfMemory taking cut h = tt

-- what a clash says says what follows from it
pub if_clash-map : {P Q : ℕ → Type 0} (why : PartRefusal) → ((other : ℕ) → P other → Q other) → IfClash why P → IfClash why Q
if_clash-map (Line line) f h = tt
if_clash-map Version f h = tt
if_clash-map (Clash other) f h = f other h
if_clash-map OutOfMemory f h = tt

-- a clash of the part in a line
pub line_clash : (old : Named) (name text n t : List ℕ) (why : PartRefusal) → n ≡ name → t ≡ text → IsPartText t → IfClash why (HasOther (held_at old) n t)
    → IfClash why (λ other. IsPartText text × HasOther (held_at old) name text other)
line_clash old name text n t (Line line) names texts part h = tt
line_clash old name text n t Version names texts part h = tt
line_clash old name text n t (Clash other) names texts part h = (subst IsPartText texts part, (h.0, h.1 ∙ names, h.2, h.3, λ same. h.4 (same ∙ sym texts)))
line_clash old name text n t OutOfMemory names texts part h = tt

-- a clash of a file that is a part
pub part_clash : (old : Named) (name text : List ℕ) (d : Data) (file other : ℕ)
    → is_merged_head d ≡ false → IsSound text d × HasOther (held_at old) name text other → ClashesIn old name text file other
part_clash old name text d file other single h = (
  (name, text) ∷ [],
  inl (d, h.0, single, refl),
  record {
    done = [];
    one = (name, text);
    behind = [];
    all = refl;
    part = (d ∷ h.0.0, h.0.1, h.0.2, h.0.3);
    other = (h.1.0, h.1.1, h.1.2, or-none (held_at old h.1.0) ∙ h.1.3, h.1.4);
  },
)

-- a clash of a file that is a merged report
pub report_clash : (old : Named) (name text : List ℕ) (file other : ℕ)
    → (given : List (List ℕ × List ℕ)) × ListsReport text given × IsClash old file given other → ClashesIn old name text file other
report_clash old name text file other h = (h.0, inr h.1, h.2)

-- what is not put is not taken
pub put_line : (text : List ℕ) (place : ℕ) (why : PartRefusal) → IsPutFault why → IsLineRefused text place why
put_line text place (Line line) h = absurd h
put_line text place Version h = h
put_line text place (Clash file) h = tt
put_line text place OutOfMemory h = tt

pub put_or : (P : PartRefusal → Type 0) (why : PartRefusal) → IsPutFault why → IsUnputOr P why
put_or P (Line line) h = absurd h
put_or P Version h = absurd h
put_or P (Clash file) h = tt
put_or P OutOfMemory h = tt

-- what a call says of its success says what follows from it
pub on_ok-map : {P Q : Type 0} (r : Result (Unit {0}) PartRefusal) → (P → Q) → OnOk r P → OnOk r Q
on_ok-map (Ok u) f h = f h
on_ok-map (Err e) f h = tt

pub on_ok-both : {P Q R : Type 0} (r : Result (Unit {0}) PartRefusal) → (P → Q → R) → OnOk r P → OnOk r Q → OnOk r R
on_ok-both (Ok u) f h k = f h k
on_ok-both (Err e) f h k = tt

pub if_err-map : {A : Type 0} {P Q : PartRefusal → Type 0} (r : Result A PartRefusal) → ((why : PartRefusal) → P why → Q why) → IfErr r P → IfErr r Q
if_err-map (Ok a) f h = tt
if_err-map (Err e) f h = f e h

-- a text of no line is no part
no_byte : (text : List ℕ) → true ≡ (length text == 0) → text ≡ []
no_byte [] e = refl
no_byte (b ∷ bs) e = let none : length (b ∷ bs) ≡ 0 = eqb-true (length (b ∷ bs)) 0 (sym e) in absurd (omega (arith, none))

pub empty_part : (text : List ℕ) → true ≡ (length text == 0) → IsPartRefused text (Line 0)
empty_part text e = rw (no_byte text e) (inr ([], AreLines.none, refl, refl))

pub empty_file : (text : List ℕ) → true ≡ (length text == 0) → IsRefused text (Line 0)
empty_file text e = rw (no_byte text e) (inr (inl ([], AreLines.none, refl, refl, refl)))

-- why a file is refused
pub unread_file : (text : List ℕ) (why : PartRefusal) → IsUnread text why → IsRefused text why
unread_file text (Line line) h = inl h
unread_file text Version h = absurd h
unread_file text (Clash file) h = tt
unread_file text OutOfMemory h = tt

pub report_refused : (text : List ℕ) (why : PartRefusal) → IsReportRefused text why → IsRefused text why
report_refused text (Line line) h = inr (inr h)
report_refused text Version h = h
report_refused text (Clash file) h = tt
report_refused text OutOfMemory h = tt

unsound_line : (text : List ℕ) (d : Data) (line : ℕ) → is_merged_head d ≡ false → IsUnsound text d (Line line) → IsRefused text (Line line)
unsound_line text d line other (inl h) = inl h
unsound_line text d line other (inr h) = inr (inl (d ∷ h.0, h.1, h.2, other, h.3))

pub part_refused : (text : List ℕ) (d : Data) (why : PartRefusal) → is_merged_head d ≡ false → IsUnputOr (IsUnsound text d) why → IsRefused text why
part_refused text d (Line line) other h = unsound_line text d line other h
part_refused text d Version other h = (d ∷ h.0, h.1, h.2)
part_refused text d (Clash file) other h = tt
part_refused text d OutOfMemory other h = tt

pub merged_begins : (vs behind : List Value) (v : Value) → vs ≡ v ∷ behind → is_merged_head (view v) ≡ true → is_merged (map view vs) ≡ true
merged_begins vs behind v e merged = rw e merged
