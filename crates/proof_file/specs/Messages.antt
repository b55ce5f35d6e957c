-- What is printed of bytes that give no proof, of a check that an item fails, and of the files that a proof is made for.
use Rattle.std.specs.Prelude.{ℕ, List, ◌++◌, codes}
use Rattle.std.specs.Fmt.{decimal}
use Rattle.proof_file.specs.declared.Why.{Why}
use Rattle.proof_file.specs.declared.Why.TheVariants as Whys
use Rattle.proof_file.specs.declared.head.Part.{Part}
use Rattle.proof_file.specs.declared.head.Part.TheVariants as Parts
use Rattle.proof_file.specs.declared.read.ReadError.{ReadError}
use Rattle.proof_file.specs.declared.read.ReadError.TheVariants as ReadErrors

-- why bytes give no proof; no file is refused for want of memory, which has its name here too
abbrev pub unread_text : ReadError → List ℕ
unread_text (ReadErrors.Syntax at) = codes "Syntax(" ++ (decimal at ++ codes ")")
unread_text ReadErrors.Memory = codes "Memory"

-- the name of a check
abbrev pub why_text : Why → List ℕ
why_text Whys.Node = codes "Node"
why_text Whys.Shape = codes "Shape"
why_text Whys.Stratum = codes "Stratum"
why_text Whys.Places = codes "Places"
why_text Whys.Value = codes "Value"
why_text Whys.Counts = codes "Counts"
why_text Whys.States = codes "States"
why_text Whys.Claim = codes "Claim"

-- the name of a file of which a head has a digest
abbrev pub part_text : Part → List ℕ
part_text Parts.Schema = codes "schema"
part_text Parts.Import = codes "import"
part_text Parts.Data = codes "data"
