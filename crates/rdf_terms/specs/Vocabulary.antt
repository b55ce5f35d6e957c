-- The IRIs of RDF and of XML Schema datatypes that readers and node constraints name.
use Rattle.std.specs.Prelude.{ℕ, List, codes}

-- the datatype of language-tagged strings (RDF 1.1 Concepts, section 3.3)
abbrev pub rdf_lang_string : List ℕ
rdf_lang_string = codes "http://www.w3.org/1999/02/22-rdf-syntax-ns#langString"

-- what `a` stands for (RDF 1.1 Turtle, section 2.4)
abbrev pub rdf_type : List ℕ
rdf_type = codes "http://www.w3.org/1999/02/22-rdf-syntax-ns#type"

-- the first member of a collection (RDF 1.1 Turtle, section 2.8)
abbrev pub rdf_first : List ℕ
rdf_first = codes "http://www.w3.org/1999/02/22-rdf-syntax-ns#first"

-- the other members of a collection (RDF 1.1 Turtle, section 2.8)
abbrev pub rdf_rest : List ℕ
rdf_rest = codes "http://www.w3.org/1999/02/22-rdf-syntax-ns#rest"

-- the collection without members (RDF 1.1 Turtle, section 2.8)
abbrev pub rdf_nil : List ℕ
rdf_nil = codes "http://www.w3.org/1999/02/22-rdf-syntax-ns#nil"

-- the datatype of plain strings (RDF 1.1 Concepts, section 3.3)
abbrev pub xsd_string : List ℕ
xsd_string = codes "http://www.w3.org/2001/XMLSchema#string"

-- whole numbers (XML Schema Part 2, version 1.1, section 3.4.13)
abbrev pub xsd_integer : List ℕ
xsd_integer = codes "http://www.w3.org/2001/XMLSchema#integer"

-- decimal numbers (XML Schema Part 2, version 1.1, section 3.3.3)
abbrev pub xsd_decimal : List ℕ
xsd_decimal = codes "http://www.w3.org/2001/XMLSchema#decimal"

-- floating-point numbers of 32 bits (XML Schema Part 2, version 1.1, section 3.3.4)
abbrev pub xsd_float : List ℕ
xsd_float = codes "http://www.w3.org/2001/XMLSchema#float"

-- floating-point numbers of 64 bits (XML Schema Part 2, version 1.1, section 3.3.5)
abbrev pub xsd_double : List ℕ
xsd_double = codes "http://www.w3.org/2001/XMLSchema#double"

-- truth values (XML Schema Part 2, version 1.1, section 3.3.2)
abbrev pub xsd_boolean : List ℕ
xsd_boolean = codes "http://www.w3.org/2001/XMLSchema#boolean"
