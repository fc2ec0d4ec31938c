use Rattle.kept_log.proofs.PastLemmas.{elapses_same}
use Rattle.kept_log.proofs.memory.MemoryDevice.take_over.Goals as goal

pub returns-in_err-bytes-clause-time : goal.returns-in_err-bytes-clause-time
returns-in_err-bytes-clause-time c = elapses_same c.args.self.now.past.items c.args.self.now.bytes.items _

pub returns-in_err-to_vec-clause-time : goal.returns-in_err-to_vec-clause-time
returns-in_err-to_vec-clause-time c = elapses_same c.args.self.now.past.items c.args.self.now.bytes.items _

pub returns-in_err-push-clause-time : goal.returns-in_err-push-clause-time
returns-in_err-push-clause-time c = elapses_same c.args.self.now.past.items c.args.self.now.bytes.items _

pub returns-clause-time : goal.returns-clause-time
returns-clause-time c = elapses_same c.args.self.now.past.items c.args.self.now.bytes.items _
