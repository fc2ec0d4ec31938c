-- A merged report is read as the parts that it was printed for.
use Rattle.std.proofs.Common.{◌≡◌, ◌⊎◌, ℕ, zero, suc, ◌+◌, ◌-◌, not, false, position, List, [], ◌∷◌, ◌++◌, length, map, take, All, Vec, Option, None, Some, IsUtf8, codes, refl, sym, ap, ◌∙◌, subst, arith, inl, inr}
use Rattle.std.specs.declared.alloc.Global.{Global}
use Rattle.std.specs.Str.Lossy.{utf8_lossy}
use Rattle.std.specs.BTreeMap.{BTreeMap, IsOrdered, get, is_at}
use Rattle.std.specs.List.{position_or_len}
use Rattle.std.specs.Map.{lookup}
use Rattle.std.specs.Option.{option_map, option_or}
use Rattle.std.specs.Cmp.Lexicographic.{nat_list_cmp_total}
use Rattle.std.proofs.lemmas.Bool.{cases_Bool, cond_above, eq-eqb, le-ltb, false≢true}
use Rattle.std.proofs.lemmas.Cmp.{on_total}
use Rattle.std.proofs.lemmas.List.{length-append, length-map, map-append, take-append-le, take_all}
use Rattle.std.proofs.lemmas.List.Elements.{All-cons, All-head, All-map, All-nil, All-tail, All-weaker}
use Rattle.std.proofs.lemmas.Map.Views.{All-found}
use Rattle.std.proofs.lemmas.Str.{IsUtf8-append, IsUtf8-nil, utf8_lossy-IsUtf8}
use Rattle.json.proofs.Printed.Utf8.{IsUtf8-are_ascii}
use Rattle.serde_json.specs.Data.{Data}
use Rattle.serde_json.specs.View.{view}
use Rattle.serde_json.specs.declared.value.Value.{Value}
use Rattle.race_parts.specs.Lines.{AreLines, StopsAt, lines_of}
use Rattle.race_parts.specs.Members.{said_text}
use Rattle.race_parts.specs.Merging.{AreWrongIn, ClashesIn, Gives, IsAt, IsFileAdded, IsInText, IsNoPartIn, IsPartRefused, IsPartText, IsRefused, Lists, is_foreign, is_merged, is_merged_head, is_part_line, part_count, part_lines, text_told, told_of, told_parts, wrong_merged}
use Rattle.race_parts.specs.Objects.{merged_lines, news_count}
use Rattle.race_parts.specs.Parts.{bytes_cmp, held_at, held_from, joined, name_cmp, text_at, told_in}
use Rattle.race_parts.specs.ReadBack.{AgreesWith, AreFewLines, HasFewLines, IsNoFault, IsPrintable, ReadsAs, told_from}
use Rattle.race_parts.specs.Rows.{wrong_line}
use Rattle.race_parts.specs.declared.cells.Cell.{Cell}
use Rattle.race_parts.specs.declared.lines.PartRefusal.{PartRefusal}
use Rattle.race_parts.specs.declared.lines.PartRefusal.TheVariants.{Line, Version, Clash, OutOfMemory}
use Rattle.race_parts.specs.declared.parts.Part.{Part}
use Rattle.race_parts.proofs.FrontLemmas.{AreFrom, from_lines, same_lines, stops_late}
use Rattle.race_parts.proofs.LineLemmas.{lines-more}
use Rattle.race_parts.proofs.ReportLemmas.{AreSmall, Entries, head_data, pairs_count, pairs_data, part_data, report_data, report_from}
use Rattle.race_parts.proofs.UnionLemmas.{told-append}

abbrev Named : Type 0
Named = BTreeMap (Vec ℕ Global) Part

abbrev Told : Type 0
Told = List (List ℕ × List ℕ)

-- ---- lists

abbrev first_of : Data → List Data → Data
first_of d [] = d
first_of d (e ∷ es) = e

abbrev rest_of : List Data → List Data
rest_of [] = []
rest_of (e ∷ es) = es

one_first : (d e : Data) (ds es : List Data) → d ∷ ds ≡ e ∷ es → d ≡ e
one_first d e ds es h = ap (first_of d) h

one_rest : (d e : Data) (ds es : List Data) → d ∷ ds ≡ e ∷ es → ds ≡ es
one_rest d e ds es h = ap rest_of h

no_data : (e : Data) (es : List Data) → [] ≡ e ∷ es → ⊥
no_data e es h = cc h

map-take : {A B : Type 0} (f : A → B) (n : ℕ) (xs : List A) → map f (take n xs) ≡ take n (map f xs)
map-take f zero xs = refl
map-take f (suc n) [] = refl
map-take {B = B} f (suc n) (x ∷ xs) = ap (λ (ys : List B). f x ∷ ys) (map-take f n xs)

take-front : {A : Type 0} (xs ys : List A) → take (length xs) (xs ++ ys) ≡ xs
take-front xs ys = take-append-le (length xs) xs ys (omega arith) ∙ take_all (length xs) xs (omega arith)

-- ---- a part line, read

abbrev pair_in : Data → List ℕ × List ℕ
pair_in d = (said_text (codes "name") d, said_text (codes "text") d)

told_views : (vs : List Value) → map told_of vs ≡ map pair_in (map view vs)
told_views [] = refl
told_views (v ∷ vs) = ap (λ (ps : Told). told_of v ∷ ps) (told_views vs)

text_utf8 : (text : List ℕ) (ds : List Data) → AreLines text ds → IsUtf8 text
text_utf8 _ _ AreLines.none = IsUtf8-nil
text_utf8 _ _ (AreLines.another done bytes ds d all free tells) =
    IsUtf8-append (done ++ bytes) (10 ∷ []) (IsUtf8-append done bytes (text_utf8 done ds all) tells.0) (IsUtf8-are_ascii (10 ∷ []) refl)

one_told : (e : Vec ℕ Global × Part) → IsPrintable e → pair_in (part_data e) ≡ (e.0.items, e.1.text.items)
one_told e ok =
    ap (λ (n : List ℕ). (n, utf8_lossy e.1.text.items)) (utf8_lossy-IsUtf8 e.0.items ok.0)
    ∙ ap (λ (t : List ℕ). (e.0.items, t)) (utf8_lossy-IsUtf8 e.1.text.items (text_utf8 e.1.text.items ok.1.0 ok.1.1))

all_told : (es : Entries) → All IsPrintable es → map pair_in (map part_data es) ≡ told_from es
all_told [] ok = refl
all_told (e ∷ es) ok =
    ap (λ (p : List ℕ × List ℕ). p ∷ map pair_in (map part_data es)) (one_told e (All-head IsPrintable e es ok))
    ∙ ap (λ (ps : Told). (e.0.items, e.1.text.items) ∷ ps) (all_told es (All-tail IsPrintable e es ok))

count_told : (es : Entries) (cells : List Cell) → part_count (head_data es cells) ≡ length es
count_told es cells = refl

first_parts : (es : Entries) (cells : List Cell) → take (length es) (map part_data es ++ pairs_data (length es) None cells) ≡ map part_data es
first_parts es cells =
    ap (λ n. take n (map part_data es ++ pairs_data (length es) None cells)) (sym (length-map es part_data)) ∙ take-front (map part_data es) (pairs_data (length es) None cells)

parts_views : (es : Entries) (cells : List Cell) (vs : List Value) → map view vs ≡ report_data es cells → map view (part_lines vs) ≡ map part_data es
parts_views es cells [] e = absurd (no_data _ _ e)
parts_views es cells (v ∷ vs) e =
    let head = one_first (view v) (head_data es cells) (map view vs) _ e in
    ap (λ d. map view (take (part_count d) vs)) head
    ∙ map-take view (length es) vs
    ∙ ap (take (length es)) (one_rest (view v) (head_data es cells) (map view vs) _ e)
    ∙ first_parts es cells

report_told : (es : Entries) (cells : List Cell) (vs : List Value) → All IsPrintable es → map view vs ≡ report_data es cells → told_parts vs ≡ told_from es
report_told es cells vs ok e = told_views (part_lines vs) ∙ ap (map pair_in) (parts_views es cells vs e) ∙ all_told es ok

-- ---- the lines fit into a merged report

none_first : (es : Entries) (vs : List Value) → map view vs ≡ map part_data es → position_or_len (λ v. not (is_part_line (view v))) vs ≡ length vs
none_first es [] e = refl
none_first [] (v ∷ vs) e = absurd (no_data _ _ (sym e))
none_first (p ∷ es) (v ∷ vs) e =
    let rest = none_first es vs (one_rest (view v) (part_data p) (map view vs) (map part_data es) e) in
    rw (one_first (view v) (part_data p) (map view vs) (map part_data es) e) (omega (arith, rest))

part_lines_fit : (es : Entries) (vs : List Value) → map view vs ≡ map part_data es → position (λ v. not (is_part_line (view v))) vs ≡ None
part_lines_fit es vs e =
    let at = position_or_len (λ v. not (is_part_line (view v))) vs in
    sym (cond_above at (length vs) (Some at) None None (omega (arith, none_first es vs e)) refl)

none_wrong : (es : Entries) (cells : List Cell) (vs : List Value) → map view vs ≡ report_data es cells → wrong_merged vs ≡ None
none_wrong es cells [] e = absurd (no_data _ _ e)
none_wrong es cells (v ∷ vs) e =
    let parts = length es in
    let head = one_first (view v) (head_data es cells) (map view vs) _ e in
    let rest = one_rest (view v) (head_data es cells) (map view vs) _ e in
    let long : length vs ≡ parts + news_count None cells =
    sym (length-map vs view) ∙ ap length rest ∙ length-append (map part_data es) (pairs_data parts None cells) ∙ ap (λ n. n + length (pairs_data parts None cells)) (length-map es part_data)
    ∙ ap (λ n. parts + n) (pairs_count parts None cells) in
    let fit : position (λ v. not (is_part_line (view v))) (take parts vs) ≡ None = part_lines_fit es (take parts vs) (map-take view parts vs ∙ ap (take parts) rest ∙ first_parts es cells) in
    rw (head, le-ltb (length vs) parts (omega (arith, long)), eq-eqb (news_count None cells) (length vs - parts) (omega (arith, long)), fit) refl

-- ---- why a text is refused

lines_count : (text : List ℕ) (ds : List Data) → AreFrom text ds → length (lines_of text) ≡ length ds
unfolding lines_of
lines_count _ _ AreFrom.none = refl
lines_count _ _ (AreFrom.first bytes behind d ds free tells rest) = ap length (lines-more bytes behind free) ∙ ap suc (lines_count behind ds rest)

never_stops : (text : List ℕ) (ds : List Data) (line : ℕ) → AreFrom text ds → HasFewLines text → StopsAt text line → ⊥
never_stops text ds line from few stops = omega (arith, few, stops_late text ds line from stops, lines_count text ds from)

none_at : (o : Option ℕ) (line : ℕ) → o ≡ None → IsAt o (Line line) → ⊥
none_at None line e h = h
none_at (Some at) line e h = cc e

-- a part is not refused
part_sound : (text : List ℕ) (why : PartRefusal) → IsPartText text → HasFewLines text → IsInText why → IsPartRefused text why → ⊥
part_sound text (Line line) part few inside (inl stops) = never_stops text part.0 line (from_lines text part.0 part.1) few stops
part_sound text (Line line) part few inside (inr h) =
    none_at (wrong_line h.0) line (ap wrong_line (same_lines text h.0 part.0 (from_lines text part.0 part.1) h.1) ∙ part.3) h.3
part_sound text Version part few inside h =
    absurd (false≢true (sym part.2 ∙ ap is_foreign (sym (same_lines text h.0 part.0 (from_lines text part.0 part.1) h.1)) ∙ h.2))
part_sound text (Clash file) part few inside h = inside
part_sound text OutOfMemory part few inside h = inside

abbrev IsGood : List ℕ × List ℕ → Type 0
IsGood p = IsPartText p.1 × HasFewLines p.1

all_good : (es : Entries) → All IsPrintable es → All (λ e. HasFewLines e.1.text.items) es → All IsGood (told_from es)
all_good [] ok few = All-nil IsGood
all_good (e ∷ es) ok few =
    All-cons IsGood (e.0.items, e.1.text.items) (told_from es) ((All-head IsPrintable e es ok).1, All-head (λ (p : Vec ℕ Global × Part). HasFewLines p.1.text.items) e es few)
    (all_good es (All-tail IsPrintable e es ok) (All-tail (λ (p : Vec ℕ Global × Part). HasFewLines p.1.text.items) e es few))

in_middle : (P : List ℕ × List ℕ → Type 0) (done behind : Told) (p : List ℕ × List ℕ) → All P (done ++ p ∷ behind) → P p
in_middle P [] behind p all = All-head P p behind all
in_middle P (q ∷ done) behind p all = in_middle P done behind p (All-tail P q (done ++ p ∷ behind) all)

no_part_refused : (es : Entries) (lines : List Value) (line : ℕ) → map told_of lines ≡ told_from es → All IsGood (told_from es) → IsNoPartIn lines line → ⊥
no_part_refused es lines line told good none =
    let split : told_from es ≡ map told_of none.done ++ told_of none.value ∷ map told_of none.behind =
    sym told ∙ ap (map told_of) none.all ∙ map-append told_of none.done (none.value ∷ none.behind) in
    let one : IsGood (told_of none.value) = in_middle IsGood (map told_of none.done) (map told_of none.behind) (told_of none.value) (subst (All IsGood) split good) in
    part_sound (text_told none.value) none.why one.0 one.1 none.in_text none.refused

-- ---- looking up

lookup_told : (ps : Entries) (q : List ℕ) → told_in (told_from ps) q ≡ option_map (λ p. p.text.items) (lookup (is_at (λ (k : Vec ℕ Global). bytes_cmp q k.items)) ps)
lookup_told [] q = refl
lookup_told (p ∷ ps) q = elim (cases_Bool (is_at (bytes_cmp q) p.0.items)) [
  | inl here ↦ rw here refl
  | inr other ↦ rw other (lookup_told ps q)
]

some_is : (s t : List ℕ) → Some s ≡ Some t → s ≡ t
some_is s t e = cc e

either_one : (o p : Option (List ℕ × ℕ)) (x : List ℕ × ℕ) → option_or o p ≡ Some x → (o ≡ Some x) ⊎ (p ≡ Some x)
either_one None p x e = inr e
either_one (Some y) p x e = inl e

abbrev first_held : Option (List ℕ × ℕ) → Option (List ℕ)
first_held o = option_map (λ h. h.0) o

held_part : (o : Option Part) → option_map (λ p. p.text.items) o ≡ first_held (option_map (λ p. (p.text.items, p.file)) o)
held_part None = refl
held_part (Some p) = refl

held_text : (number : ℕ) (o : Option (List ℕ)) → o ≡ first_held (held_from number o)
held_text number None = refl
held_text number (Some s) = refl

-- ---- what the file gives

module _ (parts : Named) (cells : List Cell) (small : AreSmall parts.entries cells) (ok : All IsPrintable parts.entries) where
  abbrev es : Entries
  es = parts.entries

  abbrev text : List ℕ
  text = merged_lines es cells

  its_lines : (ds : List Data) → AreLines text ds → ds ≡ report_data es cells
  its_lines ds lines = same_lines text ds (report_data es cells) (report_from es cells small) lines

  no_part_file : (d : Data) (ds : List Data) → AreLines text (d ∷ ds) → is_merged_head d ≡ false → ⊥
  no_part_file d ds lines other = false≢true (sym other ∙ ap is_merged_head (one_first d (head_data es cells) ds _ (its_lines (d ∷ ds) lines)))

  gives : (name : List ℕ) (given : Told) → Gives name text given → given ≡ told_from es
  gives name given (inl h) = absurd (no_part_file h.0 h.1.0 h.1.1 h.2)
  gives name given (inr h) = h.5 ∙ report_told es cells h.0 ok (its_lines (map view h.0) h.1)

  added : (name : List ℕ) (old new : Named) → IsFileAdded old new (Gives name text) → (q : Vec ℕ Global) → text_at new q ≡ joined (text_at old q) (text_at parts q)
  added name old new h q =
      h.2 q ∙ ap (λ (given : Told). joined (text_at old q) (told_in given q.items)) (gives name h.0 h.1) ∙ ap (joined (text_at old q)) (lookup_told es q.items)

  wrong_never : (vs : List Value) (line : ℕ) → AreFewLines text es → map view vs ≡ report_data es cells → AreWrongIn vs (Line line) → ⊥
  wrong_never vs line few e (inl h) = none_at (wrong_merged vs) line (none_wrong es cells vs e) h
  wrong_never vs line few e (inr h) = no_part_refused es (part_lines vs) line (report_told es cells vs ok e) (all_good es ok few.1) h

  taken : AreFewLines text es → (why : PartRefusal) → IsRefused text why → IsNoFault why
  taken few (Line line) (inl stops) = never_stops text (report_data es cells) line (report_from es cells small) few.0 stops
  taken few (Line line) (inr (inl h)) = absurd (false≢true (sym h.3 ∙ ap is_merged (its_lines h.0 h.1)))
  taken few (Line line) (inr (inr (inl stops))) = never_stops text (report_data es cells) line (report_from es cells small) few.0 stops
  taken few (Line line) (inr (inr (inr h))) = wrong_never h.0 line few (its_lines (map view h.0) h.1) h.4
  taken few Version h = absurd (false≢true (sym (ap is_foreign (its_lines h.0 h.1)) ∙ h.2))
  taken few (Clash file) h = tt
  taken few OutOfMemory h = tt

  lists : (name : List ℕ) (given : Told) → Lists name text given → given ≡ told_from es
  lists name given (inl h) = absurd (no_part_file h.0 h.1.0 h.1.1 h.2)
  lists name given (inr h) = h.5 ∙ report_told es cells h.0 ok (its_lines (map view h.0) h.1)

  abbrev IsFound : List ℕ × List ℕ → Type 0
  IsFound p = told_in (told_from es) p.0 ≡ Some p.1

  each_found : IsOrdered name_cmp parts → All IsFound (told_from es)
  each_found ordered =
      All-map IsFound (λ (e : Vec ℕ Global × Part). (e.0.items, e.1.text.items)) es
      (All-weaker (λ (e : Vec ℕ Global × Part). get name_cmp parts e.0 ≡ Some e.1) (λ (e : Vec ℕ Global × Part). IsFound (e.0.items, e.1.text.items))
      (λ e found. lookup_told es e.0.items ∙ ap (option_map (λ p. p.text.items)) found) es
      (All-found (on_total (λ (v : Vec ℕ Global). v.items) nat_list_cmp_total) parts ordered))

  agrees : IsOrdered name_cmp parts → (name : List ℕ) (old : Named) (number file : ℕ) → AgreesWith old parts → ClashesIn old name text number file → ⊥
  agrees ordered name old number file agree h =
      let clash = h.2 in
      let split : told_from es ≡ clash.done ++ clash.one ∷ clash.behind = sym (lists name h.0 h.1) ∙ clash.all in
      let found : IsFound clash.one = in_middle IsFound clash.done clash.behind clash.one (subst (All IsFound) split (each_found ordered)) in
      let key = clash.other.0 in
      let there : told_in (told_from es) key.items ≡ Some clash.one.1 = ap (told_in (told_from es)) clash.other.1 ∙ found in
      let s = clash.other.2 in
      elim (either_one (held_at old key) (held_from number (told_in clash.done key.items)) (s, file) clash.other.3) [
        | inl e ↦ absurd (clash.other.4 (agree key s clash.one.1 (held_part (get name_cmp old key) ∙ ap first_held e) (sym (lookup_told es key.items) ∙ there)))
        | inr e ↦
            let before : told_in clash.done key.items ≡ Some s = held_text number (told_in clash.done key.items) ∙ ap first_held e in
            let here : told_in (told_from es) key.items ≡ Some s =
            ap (λ (ps : Told). told_in ps key.items) split ∙ told-append clash.done (clash.one ∷ clash.behind) key.items
            ∙ ap (λ o. joined o (told_in (clash.one ∷ clash.behind) key.items)) before in
            absurd (clash.other.4 (some_is s clash.one.1 (sym here ∙ there)))
      ]

  pub reads_back : IsOrdered name_cmp parts → ReadsAs text parts
  reads_back ordered = record { gives = gives; added = added; taken = taken; agrees = agrees ordered }
