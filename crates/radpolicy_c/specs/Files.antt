-- Dictionary files, as C gives them.
use Rattle.avp_dict.specs.declared.file.files.NamedFile.{NamedFile}
use Rattle.radpolicy_c.specs.declared.files.RadpolicyFile.{RadpolicyFile}

abbrev pub file_given : RadpolicyFile → NamedFile
file_given file = record { name = file.name.now; octets = file.text.now }
