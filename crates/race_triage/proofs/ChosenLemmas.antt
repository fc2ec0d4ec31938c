-- Verdicts that are considered one after another.
use Rattle.std.proofs.Common.{◌≡◌, ℕ, ◌+◌, ◌-◌, ◌^◌, ◌++◌, [], ◌∷◌, ◌==◌, ◌&&◌, ◌||◌, not, Bool, true, false, cond, max, min, List, length, count_by, filter, is_some, Option, Some, None, refl, ap, sym, ◌∙◌, arith, append-nil}
use Rattle.std.proofs.lemmas.List.{append_assoc}
use Rattle.std.proofs.lemmas.List.Elements.{filter-append}
use Rattle.std.proofs.lemmas.List.Sums.{sum_by-append, sum_by-cons}
use Rattle.rapid_text.specs.Recording.{Recording}
use Rattle.indexmap.specs.IndexSet.{IndexSet}
use Rattle.race_triage.specs.Chosen.{in_order, known_places, is_hidden, is_known_race, is_of, is_told, more_of, raised, told_count, AreChosen, AreConsidered}
use Rattle.race_triage.specs.Pieces.{capped}
use Rattle.race_triage.specs.declared.chosen.Part.TheVariants.{Races}
use Rattle.race_triage.specs.declared.chosen.Chosen.{Chosen}
use Rattle.race_triage.specs.declared.verdicts.Verdict.{Verdict}

raised_by : (most n a b : ℕ) → min (min (n + a) (max n most) + b) (max (min (n + a) (max n most)) most) ≡ min (n + (a + b)) (max n most)
raised_by most n a b = omega arith

pub raised_twice : (n a b : ℕ) → raised (raised n a) b ≡ raised n (a + b)
raised_twice n a b = raised_by (2 ^ 64 - 1) n a b

more_twice : (o : Option ℕ) (a b : ℕ) → more_of (more_of o a) b ≡ more_of o (a + b)
more_twice None a b = refl
more_twice (Some n) a b = ap (λ m. Some m) (raised_twice n a b)

raised_none : (n : ℕ) → n ≡ raised n 0
raised_none n = bound (2 ^ 64 - 1) n
  where
    bound : (most n : ℕ) → n ≡ min (n + 0) (max n most)
    bound most n = omega arith

raised_from_none : (k : ℕ) → raised 0 k ≡ capped k
raised_from_none k = bound (2 ^ 64 - 1) k
  where
    bound : (most k : ℕ) → min (0 + k) (max 0 most) ≡ min k most
    bound most k = omega arith

more_none : (o : Option ℕ) → o ≡ more_of o 0
more_none None = refl
more_none (Some n) = ap (λ m. Some m) (raised_none n)

told_is : (b : Bool) (test : Verdict → Bool) (vs : List Verdict) → more_of (cond b (Some 0) None) (count_by test vs) ≡ told_count b test vs
told_is false test vs = refl
told_is true test vs = ap (λ m. Some m) (raised_from_none (count_by test vs))

-- counting what two tests pass is counting among those that the first keeps
counted : (p q : Verdict → Bool) (xs : List Verdict) → count_by (λ v. p v && q v) xs ≡ count_by q (filter p xs)
counted p q [] = refl
counted p q (x ∷ xs) =
    let rest = counted p q xs in
    let here = sum_by-cons (λ v. cond (p v && q v) 1 0) x xs in
    by (p x) rest here
  where
    by : (b : Bool) → count_by (λ v. p v && q v) xs ≡ count_by q (filter p xs) → count_by (λ v. p v && q v) (x ∷ xs) ≡ cond (b && q x) 1 0 + count_by (λ v. p v && q v) xs
        → count_by (λ v. p v && q v) (x ∷ xs) ≡ count_by q (cond b (x ∷ filter p xs) (filter p xs))
    by true rest here = here ∙ ap (λ n. cond (q x) 1 0 + n) rest ∙ sym (sum_by-cons (λ v. cond (q v) 1 0) x (filter p xs))
    by false rest here = omega (arith, here) ∙ rest

module _ (r : Recording) (known : Option (List (ℕ × ℕ))) (only hide : List (List ℕ)) where
  abbrev pub Considered : List Verdict → Chosen → Chosen → Type 0
  Considered vs a b = AreConsidered r known only hide vs a b

  abbrev pub told : Verdict → Bool
  told v = is_told r known only hide v

  abbrev pub told_race : Verdict → Bool
  told_race v = is_told r known only hide v && is_of Races v

  abbrev pub hidden_one : Verdict → Bool
  hidden_one v = is_hidden r known only hide v

  -- before any is considered
  pub Considered-none : (c : Chosen) → AreConsidered r known only hide [] c c
  Considered-none c = record {
    verdicts = sym (append-nil c.verdicts.items);
    races = raised_none c.races;
    known_races = more_none c.known;
    hidden = more_none c.hidden;
  }

  -- some, and then others
  pub Considered-append : (xs ys : List Verdict) (a b c : Chosen) → AreConsidered r known only hide xs a b → AreConsidered r known only hide ys b c → AreConsidered r known only hide (xs ++ ys) a c
  Considered-append xs ys a b c one two = record {
    verdicts =
        two.verdicts
        ∙ ap (λ vs. vs ++ filter told ys) one.verdicts
        ∙ append_assoc a.verdicts.items (filter told xs) (filter told ys)
        ∙ ap (λ l. a.verdicts.items ++ l) (sym (filter-append told xs ys));
    races =
        two.races
        ∙ ap (λ n. raised n (count_by told_race ys)) one.races
        ∙ raised_twice a.races (count_by told_race xs) (count_by told_race ys)
        ∙ ap (raised a.races) (sym (sum_by-append (λ v. cond (told_race v) 1 0) xs ys));
    known_races =
        two.known_races
        ∙ ap (λ o. more_of o (count_by (is_known_race known) ys)) one.known_races
        ∙ more_twice a.known (count_by (is_known_race known) xs) (count_by (is_known_race known) ys)
        ∙ ap (more_of a.known) (sym (sum_by-append (λ v. cond (is_known_race known v) 1 0) xs ys));
    hidden =
        two.hidden
        ∙ ap (λ o. more_of o (count_by hidden_one ys)) one.hidden
        ∙ more_twice a.hidden (count_by hidden_one xs) (count_by hidden_one ys)
        ∙ ap (more_of a.hidden) (sym (sum_by-append (λ v. cond (hidden_one v) 1 0) xs ys));
  }

  -- from nothing on, the whole is what is told of all verdicts
  pub AreChosen-from : (apart any : Bool) (vs : List Verdict) (start c : Chosen) → AreConsidered r known only hide (in_order apart vs) start c
      → start.verdicts.items ≡ [] → start.races ≡ 0 → start.known ≡ cond (is_some known) (Some 0) None → start.hidden ≡ cond any (Some 0) None
      → any ≡ (not (length only == 0) || not (length hide == 0)) → AreChosen r known only hide apart vs c
  AreChosen-from apart any vs start c are e0 e1 e2 e3 e4 =
      let items : c.verdicts.items ≡ filter told (in_order apart vs) = are.verdicts ∙ ap (λ l. l ++ filter told (in_order apart vs)) e0 in
      record {
        verdicts = items;
        races =
            are.races
            ∙ ap (λ n. raised n (count_by told_race (in_order apart vs))) e1
            ∙ raised_from_none (count_by told_race (in_order apart vs))
            ∙ ap capped (counted told (is_of Races) (in_order apart vs))
            ∙ ap (λ l. capped (count_by (is_of Races) l)) (sym items);
        known_races = are.known_races ∙ ap (λ o. more_of o (count_by (is_known_race known) (in_order apart vs))) e2 ∙ told_is (is_some known) (is_known_race known) (in_order apart vs);
        hidden =
            are.hidden
            ∙ ap (λ o. more_of o (count_by hidden_one (in_order apart vs))) e3
            ∙ told_is any hidden_one (in_order apart vs)
            ∙ ap (λ b. told_count b hidden_one (in_order apart vs)) e4;
      }

-- some places may be known where a set of them is given
pub some_places : {S : Type 0} (known : Option (IndexSet (ℕ × ℕ) S)) → is_some (known_places known) ≡ is_some known
some_places None = refl
some_places (Some places) = refl
