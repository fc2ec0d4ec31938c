-- The lines of a text, taken from its front. A text has its lines in one way.
use Rattle.std.proofs.Common.{◌≡◌, ◌≢◌, ℕ, ◌+◌, ◌≤◌, ◌<◌, suc, List, [], ◌∷◌, ◌++◌, append_assoc, append-nil, length, None, Some, refl, sym, ap, ◌∙◌, subst, arith, inl, inr}
use Rattle.std.proofs.lemmas.List.{length-append}
use Rattle.serde_json.specs.Data.{Data}
use Rattle.serde_json.specs.Read.{read}
use Rattle.race_parts.specs.Lines.{AreLines, HasNoFeed, IsNoLine, StopsAt, Tells, line_count_limit}
use Rattle.race_parts.proofs.FactLemmas.{data_told}

-- The same as AreLines, but the first line comes first.
pub data AreFrom : List ℕ → List Data → Type 0 where
  none : AreFrom [] []
  first : (bytes behind : List ℕ) (d : Data) (ds : List Data) → HasNoFeed bytes → Tells bytes d → AreFrom behind ds → AreFrom (bytes ++ 10 ∷ behind) (d ∷ ds)

-- ---- one form from the other

pub from-append : (xs ys : List ℕ) (ds es : List Data) → AreFrom xs ds → AreFrom ys es → AreFrom (xs ++ ys) (ds ++ es)
from-append _ ys _ es AreFrom.none more = more
from-append _ ys _ es (AreFrom.first bytes behind d ds free tells rest) more =
    subst (λ (text : List ℕ). AreFrom text (d ∷ (ds ++ es))) (sym (append_assoc bytes (10 ∷ behind) ys))
    (AreFrom.first bytes (behind ++ ys) d (ds ++ es) free tells (from-append behind ys ds es rest more))

pub from_lines : (text : List ℕ) (ds : List Data) → AreLines text ds → AreFrom text ds
from_lines _ _ AreLines.none = AreFrom.none
from_lines _ _ (AreLines.another done bytes ds d all free tells) =
    subst (λ (text : List ℕ). AreFrom text (ds ++ d ∷ [])) (sym (append_assoc done bytes (10 ∷ [])))
    (from-append done (bytes ++ 10 ∷ []) ds (d ∷ []) (from_lines done ds all) (AreFrom.first bytes [] d [] free tells AreFrom.none))

-- ---- a first line ends in one place

after_first : (b : ℕ) (bs : List ℕ) → HasNoFeed (b ∷ bs) → HasNoFeed bs
after_first b bs free k inside = free (suc k) (omega (arith, inside))

abbrev head_of : List ℕ → ℕ
head_of [] = 0
head_of (b ∷ bs) = b

abbrev tail_of : List ℕ → List ℕ
tail_of [] = []
tail_of (b ∷ bs) = bs

pub one_cut : (a b x y : List ℕ) → HasNoFeed a → HasNoFeed b → a ++ 10 ∷ x ≡ b ++ 10 ∷ y → (a ≡ b) × (x ≡ y)
one_cut [] [] x y free free' e = (refl, ap tail_of e)
one_cut [] (c ∷ b) x y free free' e = absurd (free' 0 (omega arith) (sym (ap head_of e)))
one_cut (c ∷ a) [] x y free free' e = absurd (free 0 (omega arith) (ap head_of e))
one_cut (c ∷ a) (d ∷ b) x y free free' e =
    let rest = one_cut a b x y (after_first c a free) (after_first d b free') (ap tail_of e) in
    (ap (λ h. h ∷ a) (ap head_of e) ∙ ap (λ (t : List ℕ). d ∷ t) rest.0, rest.1)

no_text : (bytes behind : List ℕ) → bytes ++ 10 ∷ behind ≢ []
no_text [] behind e = cc
no_text (b ∷ bytes) behind e = cc

-- ---- what is left behind some lines

-- the lines of the text are these, and then those of `rest`
pub record IsLeft (rest : List ℕ) (before ds : List Data) : Type 0 where
  pub tail : List Data
  pub lines : AreFrom rest tail
  pub all : ds ≡ before ++ tail

-- the first line is taken away
first_away : (text bytes rest : List ℕ) (d : Data) (ds : List Data) → AreFrom text ds → text ≡ bytes ++ 10 ∷ rest → HasNoFeed bytes → Tells bytes d
    → IsLeft rest (d ∷ []) ds
first_away _ bytes rest d _ AreFrom.none e free tells = absurd (no_text bytes rest (sym e))
first_away _ bytes rest d _ (AreFrom.first bytes' behind d' ds free' tells' lines) e free tells =
    let same = one_cut bytes' bytes behind rest free' free e in
    let one : d' ≡ d = data_told bytes' d' tells' ∙ sym (data_told bytes' d (subst (λ (b : List ℕ). Tells b d) (sym same.0) tells)) in
    record { tail = ds; lines = subst (λ (t : List ℕ). AreFrom t ds) same.1 lines; all = ap (λ x. x ∷ ds) one }

pub left_behind : (done rest : List ℕ) (before ds : List Data) → AreLines done before → AreFrom (done ++ rest) ds → IsLeft rest before ds
left_behind _ rest _ ds AreLines.none from = record { tail = ds; lines = from; all = refl }
left_behind _ rest _ ds (AreLines.another done bytes before d all free tells) from =
    let regroup : (done ++ bytes ++ 10 ∷ []) ++ rest ≡ done ++ (bytes ++ 10 ∷ rest) = append_assoc (done ++ bytes) (10 ∷ []) rest ∙ append_assoc done bytes (10 ∷ rest) in
    let some = left_behind done (bytes ++ 10 ∷ rest) before ds all (subst (λ (t : List ℕ). AreFrom t ds) regroup from) in
    let one = first_away (bytes ++ 10 ∷ rest) bytes rest d some.tail some.lines refl free tells in
    record {
      tail = one.tail;
      lines = one.lines;
      all = some.all ∙ ap (λ (t : List Data). before ++ t) one.all ∙ sym (append_assoc before (d ∷ []) one.tail);
    }

none_left : (ds : List Data) (text : List ℕ) → AreFrom text ds → text ≡ [] → ds ≡ []
none_left _ _ AreFrom.none e = refl
none_left _ _ (AreFrom.first bytes behind d ds free tells rest) e = absurd (no_text bytes behind e)

-- the lines of a text are these alone
pub same_lines : (text : List ℕ) (ds es : List Data) → AreFrom text es → AreLines text ds → ds ≡ es
same_lines text ds es from lines =
    let left = left_behind text [] ds es lines (subst (λ (t : List ℕ). AreFrom t es) (sym (append-nil text)) from) in
    sym (left.all ∙ ap (λ (t : List Data). ds ++ t) (none_left left.tail [] left.lines refl) ∙ append-nil ds)

-- ---- a text of lines stops only at the limit

feed_at : (bytes behind : List ℕ) → HasNoFeed (bytes ++ 10 ∷ behind) → ⊥
feed_at [] behind free = free 0 (omega arith) refl
feed_at (b ∷ bytes) behind free = feed_at bytes behind (after_first b (bytes ++ 10 ∷ behind) free)

none_some : (d : Data) → None ≡ Some d → ⊥
none_some d e = cc

line_there : (before : ℕ) (text : List ℕ) (ds : List Data) → AreFrom text ds → text ≢ [] → IsNoLine before text → (line_count_limit ≤ before) × (0 < length ds)
line_there before _ _ AreFrom.none more wrong = absurd (more refl)
line_there before _ _ (AreFrom.first bytes behind d ds free tells rest) more (inl free') = absurd (feed_at bytes behind free')
line_there before _ _ (AreFrom.first bytes behind d ds free tells rest) more (inr (inl limit)) = (limit, omega arith)
line_there before _ _ (AreFrom.first bytes behind d ds free tells rest) more (inr (inr other)) =
    let same = one_cut bytes other.0 behind other.1 free other.3 other.2 in
    let told : Tells other.0 d = subst (λ (b : List ℕ). Tells b d) same.0 tells in
    absurd (none_some d (sym (other.4 told.0) ∙ told.1))

pub stops_late : (text : List ℕ) (ds : List Data) (line : ℕ) → AreFrom text ds → StopsAt text line → line_count_limit < length ds
stops_late text ds line from stops =
    let left = left_behind stops.done stops.rest stops.before ds stops.read (subst (λ (t : List ℕ). AreFrom t ds) stops.all from) in
    let there = line_there (length stops.before) stops.rest left.tail left.lines stops.more stops.wrong in
    omega (arith, there.0, there.1, ap length left.all, length-append stops.before left.tail)
