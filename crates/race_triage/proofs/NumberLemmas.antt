-- Places that are numbered by their first uses have one numbering, and known races are known in each.
use Rattle.std.proofs.Common.{◌≡◌, ℕ, ◌+◌, ◌<◌, ◌==◌, ◌&&◌, ◌||◌, cond, not, is_some, Bool, true, false, List, [], ◌∷◌, Vec, Contains, length, count_by, get_or, Option, Some, refl, sym, ap, ◌∙◌, arith}
use Rattle.std.specs.Prelude.{nat_eq, slice_index}
use Rattle.std.specs.List.{position_or_len}
use Rattle.std.specs.Cmp.Lexicographic.{pointwise}
use Rattle.std.specs.declared.alloc.Global.{Global}
use Rattle.std.proofs.lemmas.Grind.{same_number_lists}
use Rattle.std.proofs.lemmas.List.{length-map}
use Rattle.std.proofs.lemmas.List.Elements.{filter_agree}
use Rattle.std.proofs.lemmas.List.Folds.{Any-from_list_any, list_any-from_Any}
use Rattle.std.proofs.lemmas.List.Sums.{length-filter}
use Rattle.std.proofs.lemmas.Option.{slice_get-get_or}
use Rattle.rapid_text.specs.Recording.{Recording, IsWellFormed}
use Rattle.race_groups.specs.Rows.{same_places}
use Rattle.race_triage.specs.Chosen.{AreChosen, in_order, is_hidden, is_kept, is_known, is_known_race, is_of, is_told, told_count}
use Rattle.race_triage.specs.Known.{AreKnown}
use Rattle.race_triage.specs.Pieces.{capped}
use Rattle.race_triage.specs.Places.{AreNumbered, IsSpot, texts_of}
use Rattle.race_triage.specs.declared.chosen.Chosen.{Chosen}
use Rattle.race_triage.specs.declared.chosen.Part.TheVariants.{Races}
use Rattle.race_triage.specs.declared.verdicts.Verdict.{Verdict}

position_texts : (name : List ℕ) (keys : List (Vec ℕ Global))
    → position_or_len (λ (v : Vec ℕ Global). pointwise nat_eq name v.items) keys ≡ position_or_len (pointwise nat_eq name) (texts_of keys)
position_texts name [] = refl
position_texts name (key ∷ keys) = ap (λ n. cond (not (pointwise nat_eq name key.items)) (1 + n) 0) (position_texts name keys)

-- where a text stands depends on the texts alone
IsSpot-texts : (keys ls : List (Vec ℕ Global)) (name : List ℕ) (n : ℕ) → texts_of keys ≡ texts_of ls → IsSpot keys name n → IsSpot ls name n
IsSpot-texts keys ls name n same is = (
  position_texts name ls ∙ ap (position_or_len (pointwise nat_eq name)) (sym same) ∙ sym (position_texts name keys) ∙ is.0,
  let one = length-map keys (λ (v : Vec ℕ Global). v.items) in
      let other = length-map ls (λ (v : Vec ℕ Global). v.items) in
      let long = ap (λ (ts : List (List ℕ)). length ts) same in
      omega (arith, is.1, one, other, long),
)

-- two numberings by first uses are one
pub numbers_unique :
    (r : Recording) → IsWellFormed r → (keys ls : List (Vec ℕ Global)) (numbers others : List ℕ) → texts_of keys ≡ texts_of ls
    → AreNumbered r (length r.events) keys numbers → AreNumbered r (length r.events) ls others → numbers ≡ others
numbers_unique r formed keys ls numbers others same one other =
    same_number_lists numbers others (one.len ∙ sym other.len)
    (λ k lt.
    let name : List ℕ = get_or r.locations k [] in
    let low : k < length r.events = omega (arith, lt, one.len) in
    let at = slice_get-get_or r.locations k [] (omega (arith, low, formed.locations)) in
    let here = one.spots k name low at in
    let there = IsSpot-texts ls keys name (slice_index others k) (sym same) (other.spots k name low at) in
    sym here.0 ∙ there.0)

known_in : (keys ls : List (Vec ℕ Global)) (text : List ℕ) (pairs others : List (ℕ × ℕ)) → texts_of keys ≡ texts_of ls → AreKnown keys text pairs → AreKnown ls text others
    → (p : ℕ × ℕ) → Contains pairs p → Contains others p
known_in keys ls text pairs others same one other p there =
    let named = (one p.0 p.1).0 there in
    let at = named.3 in
    (other p.0 p.1).1 (
      named.0,
      named.1,
      named.2,
      (at.0, at.1, IsSpot-texts keys ls named.0 at.0 same at.2, IsSpot-texts keys ls named.1 at.1 same at.3, at.4, at.5),
    )

any_known : (pairs others : List (ℕ × ℕ)) → ((p : ℕ × ℕ) → Contains pairs p → Contains others p) → (v : Verdict) → is_known (Some pairs) v ≡ true → is_known (Some others) v ≡ true
any_known pairs others inside v so =
    let any = Any-from_list_any (same_places v.row.places) pairs so in
    let there = inside any.1 (any.0, any.2, any.3) in
    list_any-from_Any (same_places v.row.places) others (there.0, any.1, there.1, there.2, any.4)

both_or_neither : (b c : Bool) → (b ≡ true → c ≡ true) → (c ≡ true → b ≡ true) → b ≡ c
both_or_neither true c on back = sym (on refl)
both_or_neither false true on back = back refl
both_or_neither false false on back = refl

-- whatever is known of a text is known in both
pub known_same : (keys ls : List (Vec ℕ Global)) (text : List ℕ) (pairs others : List (ℕ × ℕ)) → texts_of keys ≡ texts_of ls → AreKnown keys text pairs → AreKnown ls text others
    → (v : Verdict) → is_known (Some pairs) v ≡ is_known (Some others) v
known_same keys ls text pairs others same one other v =
    both_or_neither (is_known (Some pairs) v) (is_known (Some others) v) (any_known pairs others (known_in keys ls text pairs others same one other) v)
    (any_known others pairs (known_in ls keys text others pairs (sym same) other one) v)

count_agree : {X : Type 0} (p q : X → Bool) → ((x : X) → p x ≡ q x) → (xs : List X) → count_by p xs ≡ count_by q xs
count_agree {X} p q same xs =
    sym (length-filter p xs) ∙ ap (λ (ys : List X). length ys) (filter_agree p q same xs) ∙ length-filter q xs

-- the choice depends on what is known alone
pub AreChosen-known :
    (r : Recording) (known other : Option (List (ℕ × ℕ))) (only hide : List (List ℕ)) (apart : Bool) (vs : List Verdict) (c : Chosen) → is_some known ≡ is_some other
    → ((v : Verdict) → is_known known v ≡ is_known other v) → AreChosen r known only hide apart vs c → AreChosen r other only hide apart vs c
AreChosen-known r known other only hide apart vs c given same is =
    let race : (v : Verdict) → is_known_race known v ≡ is_known_race other v = λ v. ap (λ b. is_of Races v && b) (same v) in
    let told : (v : Verdict) → is_told r known only hide v ≡ is_told r other only hide v = λ v. ap (λ b. not b && is_kept r only hide v) (race v) in
    let hidden : (v : Verdict) → is_hidden r known only hide v ≡ is_hidden r other only hide v = λ v. ap (λ b. not b && not (is_kept r only hide v)) (race v) in
    record {
      verdicts = is.verdicts ∙ filter_agree (is_told r known only hide) (is_told r other only hide) told (in_order apart vs);
      races = is.races;
      known_races =
          is.known_races
          ∙ counted_same (is_some known) (is_known_race known) (is_known_race other) (count_agree (is_known_race known) (is_known_race other) race (in_order apart vs))
          ∙ ap (λ b. told_count b (is_known_race other) (in_order apart vs)) given;
      hidden =
          is.hidden
          ∙ counted_same (not (length only == 0) || not (length hide == 0)) (is_hidden r known only hide) (is_hidden r other only hide)
          (count_agree (is_hidden r known only hide) (is_hidden r other only hide) hidden (in_order apart vs));
    }
  where
    counted_same : (b : Bool) (p q : Verdict → Bool) → count_by p (in_order apart vs) ≡ count_by q (in_order apart vs) → told_count b p (in_order apart vs) ≡ told_count b q (in_order apart vs)
    counted_same false p q same = refl
    counted_same true p q same = ap (λ n. Some (capped n)) same
