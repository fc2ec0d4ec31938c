use Rattle.race_page.proofs.whole.page_text.Goals as goal

pub returns-clause-ok : goal.returns-clause-ok
returns-clause-ok c = simp c.new-page.ensures.trace at c.append_page.ensures.ok
