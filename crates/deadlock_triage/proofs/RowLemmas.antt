-- The rows after one more pair of requests.
use Rattle.std.proofs.Common.{◌≡◌, ◌≢◌, ◌⊎◌, ℕ, zero, suc, ◌+◌, ◌<◌, ◌≤◌, Bool, true, List, [], ◌∷◌, ◌++◌, Vec, length, set, get_or, Some, refl, sym, ap, ◌∙◌, subst, arith, inl, inr}
use Rattle.std.specs.List.{slice_get}
use Rattle.std.specs.Option.{option_map}
use Rattle.std.specs.declared.alloc.Global.{Global}
use Rattle.std.proofs.lemmas.Bool.{cases_eq, cases_lt}
use Rattle.std.proofs.lemmas.List.{length-append, length-set, get_or-set_same, get_or-set_other}
use Rattle.std.proofs.lemmas.Option.{same_Some, slice_get_within, slice_get-get_or, get_or_from_slice_get}
use Rattle.rapid_text.specs.Recording.{Recording}
use Rattle.trace_rules.proofs.Counts.{slice_get-set}
use Rattle.deadlock_triage.specs.Patterns.{HasPattern, locations_of}
use Rattle.deadlock_triage.specs.Requests.{IsPair}
use Rattle.deadlock_triage.specs.Rows.{AreOnce, AreRows, IsAdded, IsFoundAt, IsRowAt, IsSeen, text_at}
use Rattle.deadlock_triage.specs.Verdicts.{IsNeverShown, IsVerdict}
use Rattle.deadlock_triage.specs.declared.outcomes.Outcome.TheVariants.{Apart}
use Rattle.deadlock_triage.specs.declared.outcomes.Verdict.{Verdict}
use Rattle.deadlock_triage.proofs.ListLemmas.{get_before, get_either, get_last, length-cons}
use Rattle.deadlock_triage.proofs.PatternLemmas.{locations-same, pattern-one}

-- the texts of a list stay where they are
text_before : (keys : List (Vec ℕ Global)) (key : Vec ℕ Global) (k : ℕ) (text : List ℕ) → text_at keys k ≡ Some text → text_at (keys ++ key ∷ []) k ≡ Some text
text_before [] key k text at = cc
text_before (x ∷ xs) key zero text at = at
text_before (x ∷ xs) key (suc k) text at = text_before xs key k text at

-- an element elsewhere stays after a write
kept_at : (vs : List Verdict) (at k : ℕ) (new v : Verdict) → k ≢ at → slice_get vs k ≡ Some v → slice_get (set vs at new) k ≡ Some v
kept_at vs at k new v other is =
    let within : k < length vs = slice_get_within vs k v is in
    slice_get-get_or (set vs at new) k v (omega (arith, within, length-set vs at new))
    ∙ ap Some (get_or-set_other vs at k new v other ∙ get_or_from_slice_get vs k v v is)

-- one more pair is seen
pub seen-next : (nested : List ℕ) (i j e d x y : ℕ) → slice_get nested i ≡ Some x → slice_get nested j ≡ Some y → IsSeen nested (i + 1) j e d
    → IsSeen nested i j e d ⊎ ((x ≡ e) × (y ≡ d))
seen-next nested i j e d x y first second s =
    elim s.low [
      | inl low ↦ inl (record { a = s.a; b = s.b; lower = s.lower; first = s.first; second = s.second; low = inl low })
      | inr at ↦ elim (cases_lt s.a i) [
        | inl low ↦ inl (record { a = s.a; b = s.b; lower = s.lower; first = s.first; second = s.second; low = inr (at.0, low) })
        | inr high ↦
            let here : s.a ≡ i = omega (arith, at.1) in
            inr (
              same_Some x e (sym first ∙ ap (slice_get nested) (sym here) ∙ s.first),
              same_Some y d (sym second ∙ ap (slice_get nested) (sym at.0) ∙ s.second),
            )
      ]
    ]

-- the pairs of a later request with all earlier ones are seen
seen_all : (nested : List ℕ) (j e d : ℕ) → IsSeen nested 0 (j + 1) e d → IsSeen nested j j e d
seen_all nested j e d s =
    elim s.low [
      | inl low ↦ elim (cases_lt s.b j) [
        | inl before ↦ record { a = s.a; b = s.b; lower = s.lower; first = s.first; second = s.second; low = inl before }
        | inr here ↦
            let at : s.b ≡ j = omega (arith, low) in
            record { a = s.a; b = s.b; lower = s.lower; first = s.first; second = s.second; low = inr (at, omega (arith, s.lower, at)) }
      ]
      | inr at ↦ absurd (omega (arith, at.1))
    ]

module _ (r : Recording) (place : ℕ → ℕ) (nested : List ℕ) (whole : Bool) where
  -- no pair is seen
  pub rows-none : (keys : List (Vec ℕ Global)) (vs : List Verdict) → keys ≡ [] → vs ≡ [] → AreRows r place nested whole 0 0 keys vs
  rows-none keys vs no_keys no_verdicts =
      let nothing : (k : ℕ) (v : Verdict) → slice_get vs k ≡ Some v → ⊥ =
      λ k v at. let lt = slice_get_within vs k v at in omega (arith, lt, ap length no_verdicts) in
      record {
        len = ap length no_keys ∙ sym (ap length no_verdicts);
        texts = λ k v at. absurd (nothing k v at);
        verdicts = λ k v at. absurd (nothing k v at);
        if_whole = λ k v at. absurd (nothing k v at);
        apart = λ k v at. absurd (nothing k v at);
        found = λ e d s pair. elim s.low [ inl low ↦ absurd (omega (arith, low)) | inr at ↦ absurd (omega (arith, at.1)) ];
        once = λ i k v w at. absurd (nothing i v at);
      }

  pub rows-end : (j : ℕ) (keys : List (Vec ℕ Global)) (vs : List Verdict) → AreRows r place nested whole j j keys vs → AreRows r place nested whole 0 (j + 1) keys vs
  rows-end j keys vs rows = record {
    len = rows.len;
    texts = rows.texts;
    verdicts = rows.verdicts;
    if_whole = rows.if_whole;
    apart = λ k v at is e d s. rows.apart k v at is e d (seen_all nested j e d s);
    found = λ e d s. rows.found e d (seen_all nested j e d s);
    once = rows.once;
  }

  module _ (i j : ℕ) (keys : List (Vec ℕ Global)) (vs : List Verdict) (rows : AreRows r place nested whole i j keys vs) where
    -- two events that are no pair
    pub rows-skip : (x y : ℕ) → slice_get nested i ≡ Some x → slice_get nested j ≡ Some y → ¬ IsPair r x y → AreRows r place nested whole (i + 1) j keys vs
    rows-skip x y first second none = record {
      len = rows.len;
      texts = rows.texts;
      verdicts = rows.verdicts;
      if_whole = rows.if_whole;
      apart = λ k v at is e d s pair.
          elim (seen-next nested i j e d x y first second s) [
            | inl seen ↦ rows.apart k v at is e d seen pair
            | inr same ↦ absurd (none (subst (λ (a : ℕ). IsPair r a y) (sym same.0) (subst (λ (b : ℕ). IsPair r e b) (sym same.1) pair)))
          ];
      found = λ e d s pair.
          elim (seen-next nested i j e d x y first second s) [
            | inl seen ↦ rows.found e d seen pair
            | inr same ↦ absurd (none (subst (λ (a : ℕ). IsPair r a y) (sym same.0) (subst (λ (b : ℕ). IsPair r e b) (sym same.1) pair)))
          ];
      once = rows.once;
    }

    -- a row that has these locations has the pattern
    pub row-at : (at : ℕ) (v : Verdict) → text_at keys at ≡ Some (locations_of v.pattern) → at < length keys → IsRowAt vs v.pattern at
    row-at at v text lt =
        let w : Verdict = get_or vs at v in
        let is : slice_get vs at ≡ Some w = slice_get-get_or vs at v (omega (arith, lt, rows.len)) in
        let same : locations_of w.pattern ≡ locations_of v.pattern = same_Some (locations_of w.pattern) (locations_of v.pattern) (sym (rows.texts at w is) ∙ text) in
        (w, is, locations-same w.pattern v.pattern same)

    -- a new pattern
    module _ (v : Verdict) (fresh : IsVerdict r place v) (outcome : v.outcome ≡ Apart → whole ≡ true) (absent : (k : ℕ) → text_at keys k ≢ Some (locations_of v.pattern)) where
      differs : (k : ℕ) (w : Verdict) → slice_get vs k ≡ Some w → w.pattern ≢ v.pattern
      differs k w at same = absent k (rows.texts k w at ∙ ap (λ p. Some (locations_of p)) same)

      pub rows-added : (longer : List (Vec ℕ Global)) → IsAdded (locations_of v.pattern) keys longer → AreRows r place nested whole i j longer (vs ++ v ∷ [])
      rows-added longer (key, text, is) =
          let each_cases : (k : ℕ) (w : Verdict) → slice_get (vs ++ v ∷ []) k ≡ Some w → (slice_get vs k ≡ Some w) ⊎ ((k ≡ length vs) × (v ≡ w)) = get_either vs v in
          record {
            len =
                ap length is ∙ length-append keys (key ∷ []) ∙ omega (arith, rows.len, length-append vs (v ∷ []), length-cons key [], length-cons v []);
            texts = λ k w at.
                elim (each_cases k w at) [
                  | inl old ↦ ap (λ ks. text_at ks k) is ∙ text_before keys key k (locations_of w.pattern) (rows.texts k w old)
                  | inr last ↦
                      ap (λ ks. text_at ks k) is
                      ∙ ap (λ n. text_at (keys ++ key ∷ []) n) (last.0 ∙ sym rows.len)
                      ∙ ap (option_map (λ x. x.items)) (get_last keys key)
                      ∙ ap Some text
                      ∙ ap (λ x. Some (locations_of x.pattern)) last.1
                ];
            verdicts = λ k w at.
                elim (each_cases k w at) [
                  | inl old ↦ rows.verdicts k w old
                  | inr last ↦ subst (IsVerdict r place) last.1 fresh
                ];
            if_whole = λ k w at is_apart.
                elim (each_cases k w at) [
                  | inl old ↦ rows.if_whole k w old is_apart
                  | inr last ↦ outcome (ap (λ x. x.outcome) last.1 ∙ is_apart)
                ];
            apart = λ k w at is_apart e d s pair has.
                elim (each_cases k w at) [
                  | inl old ↦ rows.apart k w old is_apart e d s pair has
                  | inr last ↦
                      let f = rows.found e d s pair in
                      absurd (differs f.at f.verdict f.is (pattern-one r.events place e d f.verdict.pattern w.pattern f.pattern has ∙ ap (λ x. x.pattern) (sym last.1)))
                ];
            found = λ e d s pair.
                let f = rows.found e d s pair in
                record { at = f.at; verdict = f.verdict; is = get_before vs v f.at f.verdict f.is; pattern = f.pattern };
            once = λ a b x y one two same.
                elim (each_cases a x one) [
                  | inl old ↦ elim (each_cases b y two) [
                    | inl also ↦ rows.once a b x y old also same
                    | inr last ↦ absurd (differs a x old (same ∙ ap (λ z. z.pattern) (sym last.1)))
                  ]
                  | inr last ↦ elim (each_cases b y two) [
                    | inl old ↦ absurd (differs b y old (sym same ∙ ap (λ z. z.pattern) (sym last.1)))
                    | inr also ↦ last.0 ∙ sym also.0
                  ]
                ];
          }

    -- one row is changed
    module _ (at : ℕ) (old new : Verdict) (is : slice_get vs at ≡ Some old) (pattern : new.pattern ≡ old.pattern) (fresh : IsVerdict r place new) where
      pub rows-set : (x y : ℕ) → slice_get nested i ≡ Some x → slice_get nested j ≡ Some y → HasPattern r.events place x y new.pattern
          → (new.outcome ≡ Apart → (old.outcome ≡ Apart) × IsNeverShown r.events x y)
          → AreRows r place nested whole (i + 1) j keys (set vs at new)
      rows-set x y first second has never =
          let within : at < length vs = slice_get_within vs at old is in
          let each : (k : ℕ) (w : Verdict) → slice_get (set vs at new) k ≡ Some w → ((k ≡ at) × (new ≡ w)) ⊎ ((k ≢ at) × (slice_get vs k ≡ Some w)) =
          λ k w. slice_get-set vs at k new w within in
          let here : slice_get (set vs at new) at ≡ Some new =
          slice_get-get_or (set vs at new) at new (omega (arith, within, length-set vs at new)) ∙ ap Some (get_or-set_same vs at new new within) in
          record {
            len = rows.len ∙ sym (length-set vs at new);
            texts = λ k w get.
                elim (each k w get) [
                  | inl mine ↦
                      ap (text_at keys) mine.0 ∙ rows.texts at old is ∙ ap (λ p. Some (locations_of p)) (sym pattern ∙ ap (λ z. z.pattern) mine.1)
                  | inr other ↦ rows.texts k w other.1
                ];
            verdicts = λ k w get.
                elim (each k w get) [
                  | inl mine ↦ subst (IsVerdict r place) mine.1 fresh
                  | inr other ↦ rows.verdicts k w other.1
                ];
            if_whole = λ k w get is_apart.
                elim (each k w get) [
                  | inl mine ↦ rows.if_whole at old is (never (ap (λ z. z.outcome) mine.1 ∙ is_apart)).0
                  | inr other ↦ rows.if_whole k w other.1 is_apart
                ];
            apart = λ k w get is_apart e d s pair with_pattern.
                elim (each k w get) [
                  | inl mine ↦
                      let mine_apart = never (ap (λ z. z.outcome) mine.1 ∙ is_apart) in
                      let same : w.pattern ≡ old.pattern = ap (λ z. z.pattern) (sym mine.1) ∙ pattern in
                      elim (seen-next nested i j e d x y first second s) [
                        | inl seen ↦ rows.apart at old is mine_apart.0 e d seen pair (subst (HasPattern r.events place e d) same with_pattern)
                        | inr this ↦
                            subst (λ (a : ℕ). IsNeverShown r.events a d) this.0 (subst (λ (b : ℕ). IsNeverShown r.events x b) this.1 mine_apart.1)
                      ]
                  | inr other ↦ elim (seen-next nested i j e d x y first second s) [
                    | inl seen ↦ rows.apart k w other.1 is_apart e d seen pair with_pattern
                    | inr this ↦
                        let moved : HasPattern r.events place e d new.pattern =
                        subst (λ (a : ℕ). HasPattern r.events place a d new.pattern) this.0 (subst (λ (b : ℕ). HasPattern r.events place x b new.pattern) this.1 has) in
                        let same : w.pattern ≡ old.pattern = pattern-one r.events place e d w.pattern new.pattern with_pattern moved ∙ pattern in
                        absurd (other.0 (rows.once k at w old other.1 is same))
                  ]
                ];
            found = λ e d s pair.
                elim (seen-next nested i j e d x y first second s) [
                  | inl seen ↦
                      let f = rows.found e d seen pair in
                      elim (cases_eq f.at at) [
                        | inl mine ↦
                            let was : f.verdict ≡ old = same_Some f.verdict old (sym f.is ∙ ap (slice_get vs) mine ∙ is) in
                            record {
                              at = at;
                              verdict = new;
                              is = here;
                              pattern = subst (HasPattern r.events place e d) (ap (λ z. z.pattern) was ∙ sym pattern) f.pattern;
                            }
                        | inr other ↦ record { at = f.at; verdict = f.verdict; is = kept_at vs at f.at new f.verdict other f.is; pattern = f.pattern }
                      ]
                  | inr this ↦ record {
                    at = at;
                    verdict = new;
                    is = here;
                    pattern = subst (λ (a : ℕ). HasPattern r.events place a d new.pattern) this.0 (subst (λ (b : ℕ). HasPattern r.events place x b new.pattern) this.1 has);
                  }
                ];
            once = λ a b v w one two same.
                elim (each a v one) [
                  | inl mine ↦ elim (each b w two) [
                    | inl also ↦ mine.0 ∙ sym also.0
                    | inr other ↦
                        mine.0 ∙ sym (rows.once b at w old other.1 is (sym same ∙ ap (λ z. z.pattern) (sym mine.1) ∙ pattern))
                  ]
                  | inr other ↦ elim (each b w two) [
                    | inl mine ↦ rows.once a at v old other.1 is (same ∙ ap (λ z. z.pattern) (sym mine.1) ∙ pattern) ∙ sym mine.0
                    | inr also ↦ rows.once a b v w other.1 also.1 same
                  ]
                ];
          }
