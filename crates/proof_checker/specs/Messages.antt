-- What is printed of bytes that are not accepted as a proof.
use Rattle.std.specs.Prelude.{ℕ, List, ◌++◌, codes}
use Rattle.std.specs.Fmt.{decimal}
use Rattle.proof_file.specs.Messages.{part_text, why_text}
use Rattle.proof_checker.specs.declared.checking.CheckError.{CheckError}
use Rattle.proof_checker.specs.declared.checking.CheckError.TheVariants as CheckErrors

-- why bytes are not accepted: a stale proof has the name of the file that is another one, and a rejection the number of the
-- item and the check that it fails; no proof is refused for want of memory, which has its name here too
abbrev pub check_text : CheckError → List ℕ
check_text (CheckErrors.Syntax at) = codes "Syntax(" ++ (decimal at ++ codes ")")
check_text (CheckErrors.Stale part) = codes "Stale(" ++ (part_text part ++ codes ")")
check_text CheckErrors.Strata = codes "Strata"
check_text (CheckErrors.Rejected number why) = codes "Rejected(" ++ (decimal number ++ (codes "," ++ (why_text why ++ codes ")")))
check_text CheckErrors.Full = codes "Full"
check_text CheckErrors.Memory = codes "Memory"
