use Rattle.std.proofs.Common.{◌≡◌, refl, sym, ◌∙◌, subst}
use Rattle.std.proofs.lemmas.Bool.{false≢true}
use Rattle.rapid_text.specs.Recording.{Recording}
use Rattle.shb_clocks.specs.Candidates.{IsCandidatePair}
use Rattle.must_order.proofs.must.Must.kind.Goals as goal

pub returns-in-None : goal.returns-in-None
returns-in-None c =
    let one : c.args.self.now ≡ c.args.clocks.now = c.requires.trace ∙ sym c.requires.clocks in
    record {
      kind = (
        λ pair. false≢true (sym c.if-candidate.false ∙ c.candidate.ensures.candidate.1 (subst (λ (r : Recording). IsCandidatePair r.events c.args.first c.args.second) one pair)),
        λ forced. false≢true (sym c.if-is_forced.false ∙ c.is_forced.ensures.forced.1 forced),
        c.in-None.ensures.none refl,
      );
    }
