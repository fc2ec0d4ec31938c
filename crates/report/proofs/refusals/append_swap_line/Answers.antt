-- Each line is one piece.
use Rattle.report.proofs.refusals.append_swap_line.Goals as goal

pub returns-in-NoSuchPair-clause-ok : goal.returns-in-NoSuchPair-clause-ok
returns-in-NoSuchPair-clause-ok c = rw c.in-NoSuchPair.is c.append_bytes.ensures.ok

pub returns-in-Dependent-clause-ok : goal.returns-in-Dependent-clause-ok
returns-in-Dependent-clause-ok c = rw c.in-Dependent.is c.append_bytes-in-Dependent.ensures.ok
