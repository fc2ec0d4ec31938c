-- A window of a beginning of a trace is one of the trace.
use Rattle.std.proofs.Common.{◌≡◌, ◌+◌, ◌≤◌, ◌++◌, length, take, sym, ap, ◌∙◌, arith, inl, inr}
use Rattle.std.proofs.lemmas.List.{length-append, take-append-le}
use Rattle.trace_rules.specs.Rules.{hold_count}
use Rattle.window.specs.Laws.{WindowOfABeginning}
use Rattle.window.proofs.PlaceLemmas.{get_front}

pub beginning_law : WindowOfABeginning
beginning_law T more W k m n x lock c is =
    let fits : k ≤ length T = omega (arith, is.begins, is.within) in
    let front : take k (T ++ more) ≡ take k T = take-append-le k T more fits in
    record {
      begins = is.begins;
      within = omega (arith, is.within, length-append T more);
      size = is.size;
      same = λ i lt. is.same i lt ∙ sym (get_front T more (k + i) (omega (arith, lt, is.within)));
      unused = is.unused;
      unlocked = is.unlocked;
      chain = is.chain;
      ops = is.ops;
      taken = λ t l other.
          let h = is.taken t l other in
          let same : hold_count (take k T) t l ≡ hold_count (take k (T ++ more)) t l = ap (λ es. hold_count es t l) (sym front) in
          record {
            most = omega (arith, h.most, same);
            enough = elim h.enough [ inl all ↦ inl (all ∙ same) | inr rest ↦ inr rest ];
          };
      free = is.free;
      held = is.held;
      linked = is.linked;
      ends = is.ends;
      reads = is.reads;
      awaited = is.awaited;
      unforked = is.unforked;
    }
