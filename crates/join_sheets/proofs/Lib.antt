mod SheetWords
