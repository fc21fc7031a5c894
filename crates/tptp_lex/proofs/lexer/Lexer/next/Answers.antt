use Rattle.std.proofs.Common.{Err, Ok, ap}
use Rattle.tptp_lex.proofs.Once.{token_here, each_token_here, no_fault_here, end_here, each_end_here, fault_here, no_token_here, each_fault_here, no_end_here, held}
use Rattle.tptp_lex.proofs.lexer.Lexer.next.Goals as goal

pub returns-in-Some-clause-each_token : goal.returns-in-Some-clause-each_token
returns-in-Some-clause-each_token c t m =
    absurd (no_token_here _ _ c.in-Some.fault c.self.view_is (held _ c.in-Some.fault c.in-Some.is c.self.invariant.1) t m)

pub returns-in-Some-clause-fault : goal.returns-in-Some-clause-fault
returns-in-Some-clause-fault c = fault_here _ _ c.in-Some.fault c.self.view_is (held _ c.in-Some.fault c.in-Some.is c.self.invariant.1)

pub returns-in-Some-clause-each_fault : goal.returns-in-Some-clause-each_fault
returns-in-Some-clause-each_fault c at f =
    ap Err (each_fault_here _ _ c.in-Some.fault c.self.view_is (held _ c.in-Some.fault c.in-Some.is c.self.invariant.1) at f)

pub returns-in-Some-clause-each_end : goal.returns-in-Some-clause-each_end
returns-in-Some-clause-each_end c blank =
    absurd (no_end_here _ _ c.in-Some.fault c.self.view_is (held _ c.in-Some.fault c.in-Some.is c.self.invariant.1) c.self.invariant.0 blank)

pub returns-in-Ok-clause-token : goal.returns-in-Ok-clause-token
returns-in-Ok-clause-token c = token_here _ _ c.in-Ok.token c.self.view_is c.in-Ok.ensures.token

pub returns-in-Ok-clause-each_token : goal.returns-in-Ok-clause-each_token
returns-in-Ok-clause-each_token c t m = ap Ok (each_token_here _ _ c.in-Ok.token c.self.view_is c.in-Ok.ensures.token t m)

pub returns-in-Ok-clause-each_fault : goal.returns-in-Ok-clause-each_fault
returns-in-Ok-clause-each_fault c at f = absurd (no_fault_here _ _ c.in-Ok.token c.self.view_is c.in-Ok.ensures.token at f)

pub returns-in-Ok-clause-end : goal.returns-in-Ok-clause-end
returns-in-Ok-clause-end c = end_here _ _ c.in-Ok.token c.self.view_is c.in-Ok.ensures.token

pub returns-in-Ok-clause-each_end : goal.returns-in-Ok-clause-each_end
returns-in-Ok-clause-each_end c blank = ap Ok (each_end_here _ _ c.in-Ok.token c.self.view_is c.in-Ok.ensures.token c.self.invariant.0 blank)

pub returns-in-Err-clause-each_token : goal.returns-in-Err-clause-each_token
returns-in-Err-clause-each_token c t m = absurd (no_token_here _ _ c.in-Err.fault c.self.view_is c.in-Err.ensures.fault t m)

pub returns-in-Err-clause-fault : goal.returns-in-Err-clause-fault
returns-in-Err-clause-fault c = fault_here _ _ c.in-Err.fault c.self.view_is c.in-Err.ensures.fault

pub returns-in-Err-clause-each_fault : goal.returns-in-Err-clause-each_fault
returns-in-Err-clause-each_fault c at f = ap Err (each_fault_here _ _ c.in-Err.fault c.self.view_is c.in-Err.ensures.fault at f)

pub returns-in-Err-clause-each_end : goal.returns-in-Err-clause-each_end
returns-in-Err-clause-each_end c blank =
    absurd (no_end_here _ _ c.in-Err.fault c.self.view_is c.in-Err.ensures.fault c.self.invariant.0 blank)
