-- How often rows were changed, after one more entry; and that it is not often.
use Rattle.std.proofs.Common.{◌≡◌, ℕ, ◌+◌, ◌*◌, ◌≤◌, List, [], ◌∷◌, ◌++◌, Option, Some, None, All, length, slice_get, refl, sym, ap, subst, arith}
use Rattle.std.specs.Option.{IfSome}
use Rattle.std.proofs.lemmas.List.{append-nil, append_assoc}
use Rattle.std.proofs.lemmas.List.Elements.{All-nil, All-cons, All-head, All-tail}
use Rattle.moves.specs.declared.command.Command.{Command}
use Rattle.inverse_log.specs.declared.entry.Entry.{Entry}
use Rattle.inverse_log.specs.declared.entry.Entry.TheVariants.{Did, Batch, Undid, Proposed}
use Rattle.inverse_log.specs.Log.{done_in, commands_in, commands_at, changes_by, edits_after, edits_of}
use Rattle.inverse_log.proofs.SizeLemmas.{IsSmall, small_at}

push : (L M : List Entry) (e : Entry) → edits_after L (M ++ e ∷ []) ≡ edits_after L M + changes_by (L ++ M) e
push L [] e = let same : L ≡ L ++ [] = sym (append-nil L) in let is : changes_by L e ≡ changes_by (L ++ []) e = ap (λ X. changes_by X e) same in omega (arith, is)
push L (f ∷ M) e =
    let rest = push (L ++ f ∷ []) M e in
    let all : changes_by ((L ++ f ∷ []) ++ M) e ≡ changes_by (L ++ f ∷ M) e = ap (λ X. changes_by X e) (append_assoc L (f ∷ []) M) in
    omega (arith, rest, all)

pub edits_push : (L : List Entry) (e : Entry) → edits_of (L ++ e ∷ []) ≡ edits_of L + changes_by L e
edits_push L e = push [] L e

-- an entry has 64 changes at the most
few_in : (o : Option (ℕ × List Command)) → IfSome o (λ p. (1 ≤ length p.1) × (length p.1 ≤ 64)) → length (commands_in o) ≤ 64
few_in None h = omega arith
few_in (Some p) h = h.1

pub few_at : (L : List Entry) (k : ℕ) → All IsSmall L → length (commands_at L k) ≤ 64
few_at L k all = by (done_in (slice_get L k)) refl
  where
    by : (o : Option (ℕ × List Command)) → done_in (slice_get L k) ≡ o → length (commands_at L k) ≤ 64
    by None is = rw is (few_in None tt)
    by (Some p) is = rw is (small_at L k p.0 p.1 all is).1

few_by : (L : List Entry) (e : Entry) → All IsSmall L → IsSmall e → changes_by L e ≤ 64
few_by L (Did c d) all small = omega arith
few_by L (Batch c D) all small = small.1
few_by L (Undid c k) all small = few_at L k all
few_by L (Proposed c a b P) all small = omega arith

few_after : (L M : List Entry) → All IsSmall (L ++ M) → edits_after L M ≤ 64 * length M
few_after L [] all = omega arith
few_after L (e ∷ M) all =
    let same : (L ++ e ∷ []) ++ M ≡ L ++ e ∷ M = append_assoc L (e ∷ []) M in
    let rest = few_after (L ++ e ∷ []) M (subst (All IsSmall) (sym same) all) in
    let one : changes_by L e ≤ 64 = few_by L e (front L all) (All-head IsSmall e M (back L all)) in
    omega (arith, rest, one)
  where
    front : (L : List Entry) → All IsSmall (L ++ e ∷ M) → All IsSmall L
    front [] all = All-nil IsSmall
    front (f ∷ L) all = All-cons IsSmall f L (All-head IsSmall f (L ++ e ∷ M) all) (front L (All-tail IsSmall f (L ++ e ∷ M) all))

    back : (L : List Entry) → All IsSmall (L ++ e ∷ M) → All IsSmall (e ∷ M)
    back [] all = all
    back (f ∷ L) all = back L (All-tail IsSmall f (L ++ e ∷ M) all)

pub edits_few : (L : List Entry) → All IsSmall L → edits_of L ≤ 64 * length L
edits_few L all = few_after [] L all
