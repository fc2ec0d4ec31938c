-- What is held stays held, and is held of each pair that comes later at the same places.
use Rattle.std.proofs.Common.{◌≡◌, ℕ, ◌≤◌, true, List, slice_get, Some, Option, refl, sym, ◌∙◌, subst, arith, inl, inr}
use Rattle.std.proofs.lemmas.Option.{slice_get_within, slice_get-get_or, same_Some}
use Rattle.std.proofs.lemmas.Bool.{cases_order}
use Rattle.std.specs.List.{slice_index_or}
use Rattle.race_groups.specs.Groups.{is_between}
use Rattle.race_groups.specs.declared.kinds.Row.{Row}
use Rattle.race_groups.specs.least_pairs.Going.{AreMore, IsCandidateHeld, IsOpenHeld, IsVariableHeld}
use Rattle.race_groups.specs.least_pairs.Taking.{HoldsTry, HoldsUp}
use Rattle.race_groups.specs.least_pairs.Noting.{IsMore}
use Rattle.race_groups.specs.least_pairs.Order.{IsUpTo}
use Rattle.race_groups.specs.least_pairs.Pairs.{AreAt}
use Rattle.race_groups.specs.declared.least_pairs.least.Least.{Least}
use Rattle.race_groups.specs.declared.least_pairs.tries.Between.{Between}
use Rattle.race_groups.specs.declared.least_pairs.tries.Try.{Try}
use Rattle.std.proofs.lemmas.List.Elements.{All-weaker}
use Rattle.race_groups.proofs.least_pairs.OrderLemmas.{IsUpTo-trans}

pub IsMore-same : (most x : ℕ) (l : Least) → IsMore most x l l
IsMore-same most x l = record { last = λ is. is; candidate = λ p up. up; tries = λ of p held. held }

pub IsMore-chain : (most x : ℕ) (k l m : Least) → IsMore most x k l → IsMore most x l m → IsMore most x k m
IsMore-chain most x k l m one other = record {
  last = λ is. other.last (one.last is);
  candidate = λ p up. other.candidate p (one.candidate p up);
  tries = λ of p held. other.tries of p (one.tries of p held);
}

-- what stands there afterwards
abbrev there : List Least → ℕ → Least → Least
there ls at d = slice_index_or ls at d

module _ (most x : ℕ) (old new : List Least) (more : AreMore most x old new) where
  there_is : (at : ℕ) (l : Least) → slice_get old at ≡ Some l → slice_get new at ≡ Some (there new at l)
  there_is at l is =
      let lt = slice_get_within old at l is in
      let len = more.len in
      slice_get-get_or new at l (omega (arith, lt, len))

  there_more : (at : ℕ) (l : Least) → slice_get old at ≡ Some l → IsMore most x l (there new at l)
  there_more at l is = more.each at l (there new at l) is (there_is at l is)

  pub candidate_stays : (place : ℕ → ℕ) (rows : List Row) (a b : ℕ) → IsCandidateHeld place rows old a b → IsCandidateHeld place rows new a b
  candidate_stays place rows a b h = record {
    at = h.at;
    row = h.row;
    found = there new h.at h.found;
    row_is = h.row_is;
    found_is = there_is h.at h.found h.found_is;
    there = h.there;
    holds = (there_more h.at h.found h.found_is).candidate (b, a) h.holds;
  }

  pub open_stays : (place : ℕ → ℕ) (rows : List Row) (of : Between) (a b : ℕ) → IsOpenHeld place rows most old of a b → IsOpenHeld place rows most new of a b
  open_stays place rows of a b h = record {
    at = h.at;
    row = h.row;
    found = there new h.at h.found;
    row_is = h.row_is;
    found_is = there_is h.at h.found h.found_is;
    there = h.there;
    holds = elim h.holds [
      | inl some ↦ inl some
      | inr tries ↦ inr ((there_more h.at h.found h.found_is).tries of (b, a) tries)
    ];
  }

  pub variable_stays : (place : ℕ → ℕ) (rows : List Row) (a b : ℕ) → IsVariableHeld place rows x old a b → IsVariableHeld place rows x new a b
  variable_stays place rows a b h = record {
    at = h.at;
    row = h.row;
    found = there new h.at h.found;
    row_is = h.row_is;
    found_is = there_is h.at h.found h.found_is;
    there = h.there;
    last = (there_more h.at h.found h.found_is).last h.last;
  }

pub AreMore-same : (most x : ℕ) (ls : List Least) → AreMore most x ls ls
AreMore-same most x ls = record {
  len = refl;
  each = λ at l m is also.
      subst (λ (k : Least). IsMore most x l k) (same_Some l m (sym is ∙ also)) (IsMore-same most x l);
}

pub AreMore-chain : (most x : ℕ) (one two three : List Least) → AreMore most x one two → AreMore most x two three → AreMore most x one three
AreMore-chain most x one two three first second = record {
  len = second.len ∙ first.len;
  each = λ at l m is also.
      let between = there two at l in
      let stands = there_is most x one two first at l is in
      IsMore-chain most x l between m (first.each at l between is stands) (second.each at between m stands also);
}

-- a pair that comes no later: neither event does
pub IsUpTo-both : (a b c d : ℕ) → a ≤ c → b ≤ d → IsUpTo (b, a) (d, c)
IsUpTo-both a b c d first second = elim (cases_order b d) [
  | inl same ↦ inr (same, first)
  | inr (inl lt) ↦ inl lt
  | inr (inr gt) ↦ absurd (omega (arith, gt, second))
]

pub HoldsUp-later : (p q : ℕ × ℕ) (known : Option (ℕ × ℕ)) → IsUpTo p q → HoldsUp p known → HoldsUp q known
HoldsUp-later p q known up (s, is, le) = (s, is, IsUpTo-trans s p q le up)

pub HoldsTry-later : (most : ℕ) (of : Between) (p q : ℕ × ℕ) (tries : List Try) → IsUpTo p q → HoldsTry most of p tries → HoldsTry most of q tries
HoldsTry-later most of p q tries up held = elim held [
  | inl some ↦
      let t : Try = some.1 in
      inl (some.0, t, some.2, some.3, (some.4.0, IsUpTo-trans t.pair p q some.4.1 up))
  | inr full ↦
      inr (full.0, All-weaker (λ (t : Try). IsUpTo t.pair p) (λ (t : Try). IsUpTo t.pair q) (λ t le. IsUpTo-trans t.pair p q le up) tries full.1)
]

-- the same places, and neither event earlier
module _ (place : ℕ → ℕ) (rows : List Row) (ls : List Least) (a b c d : ℕ) (first : place a ≡ place c) (second : place b ≡ place d) (le : a ≤ c) (le' : b ≤ d) where
  there_too : (row : Row) → AreAt place row.places a b → AreAt place row.places c d
  there_too row is =
      subst (λ (k : ℕ). is_between row.places.0 row.places.1 k (place d) ≡ true) first
      (subst (λ (k : ℕ). is_between row.places.0 row.places.1 (place a) k ≡ true) second is)

  pub candidate_later : IsCandidateHeld place rows ls a b → IsCandidateHeld place rows ls c d
  candidate_later h = record {
    at = h.at;
    row = h.row;
    found = h.found;
    row_is = h.row_is;
    found_is = h.found_is;
    there = there_too h.row h.there;
    holds = HoldsUp-later (b, a) (d, c) h.found.candidate (IsUpTo-both a b c d le le') h.holds;
  }

  pub open_later : (most : ℕ) (of : Between) → IsOpenHeld place rows most ls of a b → IsOpenHeld place rows most ls of c d
  open_later most of h = record {
    at = h.at;
    row = h.row;
    found = h.found;
    row_is = h.row_is;
    found_is = h.found_is;
    there = there_too h.row h.there;
    holds = elim h.holds [
      | inl some ↦ inl some
      | inr tries ↦ inr (HoldsTry-later most of (b, a) (d, c) h.found.tries.items (IsUpTo-both a b c d le le') tries)
    ];
  }

  pub variable_later : (x : ℕ) → IsVariableHeld place rows x ls a b → IsVariableHeld place rows x ls c d
  variable_later x h = record {
    at = h.at;
    row = h.row;
    found = h.found;
    row_is = h.row_is;
    found_is = h.found_is;
    there = there_too h.row h.there;
    last = h.last;
  }
