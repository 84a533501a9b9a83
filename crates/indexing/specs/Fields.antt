-- 5.2.3.2 of source document 000: what the fields of a `bidx` say, as the code has them.
use Rattle.partial.specs.Index.{IndexFields}
use Rattle.indexing.specs.declared.fields.IndexFields.{IndexFields as CodeFields}

-- what fields that were read say
abbrev pub fields_of : CodeFields → IndexFields
fields_of x =
    record { size = x.size; front = x.front; kind = x.kind.code; list = x.list.0 }
