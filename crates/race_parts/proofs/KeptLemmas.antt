-- What is kept of the rows of a text, one row after another.
use Rattle.std.proofs.Common.{◌≡◌, ℕ, List, [], ◌∷◌, ◌++◌, append_assoc, append-nil, drop, map, Bool, true, Vec, Option, Some, None, Result, OnOk, IfSome, sym, ap, subst, ◌∙◌}
use Rattle.std.proofs.lemmas.List.{map-append}
use Rattle.std.specs.declared.alloc.Global.{Global}
use Rattle.serde_json.specs.Data.{Data}
use Rattle.race_parts.specs.Kept.{AreKept, IsKeeping, IsRowOn, kept_said, piece_in}
use Rattle.race_parts.specs.Lines.{HasNoFeed, IsReadOn, lines_of}
use Rattle.race_parts.specs.Said.{Said, known_said, said_in}
use Rattle.race_parts.specs.declared.kept.KeptRow.{KeptRow}
use Rattle.race_parts.specs.declared.kept.Piece.{Piece}
use Rattle.race_parts.specs.declared.scan.Known.{Known}
use Rattle.race_parts.proofs.LineLemmas.{lines-more}
use Rattle.race_parts.proofs.ScanLemmas.{if_some-map}

pub keeping_begins : (text behind : List ℕ) (d : Data) → IsReadOn text behind d → IsKeeping text behind []
keeping_begins text behind d on name = sym (ap (λ (ls : List (List ℕ)). map (said_in name) (drop 1 ls)) (ap lines_of on.cut ∙ lines-more on.bytes behind on.one))

pub keeping_goes_on : (text rest behind : List ℕ) (ks more : List KeptRow) (k : KeptRow) → IsKeeping text rest ks → IsRowOn text rest behind k → more ≡ ks ++ k ∷ [] → IsKeeping text behind more
keeping_goes_on text rest behind ks more k before on last name =
    ap (λ (rs : List KeptRow). map (kept_said name text) rs ++ map (said_in name) (lines_of behind)) last
    ∙ ap (λ (ss : List Said). ss ++ map (said_in name) (lines_of behind)) (map-append (kept_said name text) ks (k ∷ []))
    ∙ append_assoc (map (kept_said name text) ks) (kept_said name text k ∷ []) (map (said_in name) (lines_of behind))
    ∙ ap (λ (s : Said). map (kept_said name text) ks ++ s ∷ map (said_in name) (lines_of behind)) (on.said name)
    ∙ ap (λ (ls : List (List ℕ)). map (kept_said name text) ks ++ map (said_in name) ls) (sym (ap lines_of on.cut ∙ lines-more on.line behind on.one))
    ∙ before name

-- no line is left
pub keeping_ends : (text rest : List ℕ) (ks : List KeptRow) → IsKeeping text rest ks → rest ≡ [] → (name : List ℕ) → map (kept_said name text) ks ≡ map (said_in name) (drop 1 (lines_of text))
unfolding lines_of
keeping_ends text rest ks before e name =
    sym (append-nil (map (kept_said name text) ks)) ∙ ap (λ (r : List ℕ). map (kept_said name text) ks ++ map (said_in name) (lines_of r)) (sym e) ∙ before name

abbrev made : (name line one other : List ℕ) (k : Known) → Said
made name line one other k = record { part = name; line = line; one = one; other = other; rank = k.rank; size = k.size; later = k.later; earlier = k.earlier }

-- pieces that are what is known
pub kept_same : (name text : List ℕ) (p q r : Piece) (line : List ℕ) (k : Known) → piece_in text p ≡ line → piece_in text q ≡ k.one.now → piece_in text r ≡ k.other.now
    → kept_said name text (record { line = p; one = q; other = r; rank = k.rank; size = k.size; later = k.later; earlier = k.earlier }) ≡ known_said name line k
kept_same name text p q r line k whole one other =
    ap (λ (x : List ℕ). made name x (piece_in text q) (piece_in text r) k) whole
    ∙ ap (λ (x : List ℕ). made name line x (piece_in text r) k) one
    ∙ ap (λ (x : List ℕ). made name line k.one.now x k) other

-- all rows of a text are kept
pub kept_all : (text rest : List ℕ) (kept : Option (Vec KeptRow Global)) (rows : Vec KeptRow Global) (all : Bool) → IfSome kept (λ ks. (all ≡ true) × (ks ≡ rows))
    → (all ≡ true → IsKeeping text rest rows.items) → rest ≡ [] → AreKept text kept
kept_all text rest None rows all h f e = tt
kept_all text rest (Some ks) rows all h f e = λ name.
    subst (λ (v : Vec KeptRow Global). map (kept_said name text) v.items ≡ map (said_in name) (drop 1 (lines_of text))) (sym h.1) (keeping_ends text rest rows.items (f h.0) e name)

pub kept_at : (text : List ℕ) (rows : Option (Vec KeptRow Global)) (ks : Vec KeptRow Global) (name : List ℕ) → AreKept text rows → rows ≡ Some ks
    → map (kept_said name text) ks.items ≡ map (said_in name) (drop 1 (lines_of text))
kept_at text rows ks name kept is = subst (λ (o : Option (Vec KeptRow Global)). AreKept text o) is kept name

pub on_ok_more : {E : Type 0} (r : Result (Unit {0}) E) (new old more all : List Said) → more ≡ all → OnOk r (new ≡ old ++ more) → OnOk r (new ≡ old ++ all)
on_ok_more r new old more all e h = subst (λ (x : List Said). OnOk r (new ≡ old ++ x)) e h

-- what is said of the line of a row
pub row_on : (text rest behind line : List ℕ) (row : Option KeptRow) → rest ≡ line ++ 10 ∷ behind → HasNoFeed line → IfSome row (λ k. (name : List ℕ) → kept_said name text k ≡ said_in name line)
    → IfSome row (IsRowOn text rest behind)
row_on text rest behind line row cut one said = if_some-map row (λ k s. record { line = line; cut = cut; one = one; said = s }) said

pub if_some-at : {A : Type 0} (P : A → Type 0) (o : Option A) (a : A) → IfSome o P → o ≡ Some a → P a
if_some-at {A} P o a h e = subst (λ (x : Option A). IfSome x P) e h
